pub mod Rows
pub mod Sites
pub mod Steps
