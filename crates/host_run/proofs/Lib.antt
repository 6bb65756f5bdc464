pub mod Insides
pub mod Runs
pub mod Told
pub mod Players
