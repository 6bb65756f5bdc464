pub mod Le
pub mod Runs
