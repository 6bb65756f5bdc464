pub mod Out
pub mod Writes
