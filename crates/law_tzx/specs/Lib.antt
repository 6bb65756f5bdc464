pub mod Format
pub mod Cut
pub mod Kept
pub mod Departs
pub mod Heard
pub mod Tapes
