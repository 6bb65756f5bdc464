pub mod Answers
pub mod Playback
pub mod Trace
pub mod Inner
