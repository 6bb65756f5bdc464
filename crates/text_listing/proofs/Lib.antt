pub mod PageTexts
pub mod Showing
pub mod Utf8
pub mod Points
pub mod Texts
pub mod Lines
pub mod Listed
