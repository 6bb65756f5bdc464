pub mod Rules
pub mod Arms
