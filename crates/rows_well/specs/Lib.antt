pub mod Seen
pub mod Words
