pub mod Headers
pub mod Examples
pub mod Naming
pub mod Selecting
