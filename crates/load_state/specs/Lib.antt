pub mod Parser
pub mod Holds
pub mod Kept
