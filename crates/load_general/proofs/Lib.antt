pub mod Symbols
pub mod Parts
pub mod Loops
pub mod Given
pub mod Holding
pub mod Examples
