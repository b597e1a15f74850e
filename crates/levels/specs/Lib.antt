pub mod Stretches
pub mod Tasks
