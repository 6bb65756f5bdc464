pub mod Fitting
pub mod Digits
