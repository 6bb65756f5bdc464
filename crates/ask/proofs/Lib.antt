pub mod Needed
pub mod Loads
pub mod Named
pub mod Refusals
pub mod Answers
pub mod Listed
pub mod Readings
pub mod Full
