pub mod On48
