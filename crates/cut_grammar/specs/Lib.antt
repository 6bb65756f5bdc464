pub mod Grammar
pub mod Kinds
pub mod Cut
pub mod Places
pub mod Steps
pub mod Ends
pub mod Trace
