pub mod Layout
pub mod Words
pub mod Stored
pub mod Clearing
