pub mod Turned
pub mod Levels
