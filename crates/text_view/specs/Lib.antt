pub mod View
pub mod Dump
