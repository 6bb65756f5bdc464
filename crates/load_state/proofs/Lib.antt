pub mod Laws
pub mod Kept
pub mod Adds
pub mod Copies
pub mod Examples
pub mod Shares
