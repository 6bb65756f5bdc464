pub mod Dumped
