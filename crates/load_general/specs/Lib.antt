pub mod General
pub mod Made
pub mod Held
