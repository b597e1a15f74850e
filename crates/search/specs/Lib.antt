pub mod Paths
pub mod Shortening
