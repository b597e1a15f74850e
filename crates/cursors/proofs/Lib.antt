pub mod Walks
pub mod Walked
pub mod Called
pub mod Found
pub mod Gathered
pub mod Opens
