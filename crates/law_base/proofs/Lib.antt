pub mod Arms
pub mod Numbers
pub mod Tests
pub mod Parts
