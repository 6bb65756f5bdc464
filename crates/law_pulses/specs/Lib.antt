pub mod Play
pub mod Runs
pub mod Source
pub mod Sounding
