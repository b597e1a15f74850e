pub mod Weighing
pub mod Gathering
pub mod Visiting
