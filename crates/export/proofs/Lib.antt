pub mod Placing
pub mod Words
pub mod Heads
pub mod Inside
pub mod Loading
pub mod Naming
