pub mod Sizes
pub mod Made
pub mod OfSource
pub mod Formed
pub mod Keeps
pub mod Numbered
