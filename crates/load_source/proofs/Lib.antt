pub mod Rest
pub mod Judged
pub mod Models
