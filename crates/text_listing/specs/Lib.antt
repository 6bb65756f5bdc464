pub mod Page
pub mod Shown
pub mod Points
pub mod Lines
pub mod Inner
