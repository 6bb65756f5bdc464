pub mod Leaving
pub mod Naming
pub mod Models
mod Examples
mod Fallback
