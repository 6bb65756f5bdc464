pub mod PlaceLengths
pub mod Lengths
pub mod Examples
