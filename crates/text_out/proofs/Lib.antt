pub mod Writing
pub mod Loops
