pub mod Headers
pub mod Names
