pub mod Queries
pub mod Listed
