pub mod Texts
pub mod Mounting
pub mod Numbers
pub mod Models
pub mod Saying
pub mod Readings
