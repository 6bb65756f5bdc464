pub mod Blocks
pub mod Adds
pub mod Sounds
pub mod Deeds
pub mod Does
