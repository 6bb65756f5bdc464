pub mod Summing
pub mod Ending
