pub mod Meaning
pub mod Source
pub mod Does
pub mod Reached
