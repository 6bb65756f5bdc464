pub mod Gathered
pub mod WordsLaws
