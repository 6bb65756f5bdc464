pub mod Saying
pub mod Runs
pub mod Describing
mod ReadBack
mod Rows
mod Enough
