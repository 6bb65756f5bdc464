pub mod Telling
pub mod Numbers
