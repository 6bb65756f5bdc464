pub mod Field
pub mod Run
