pub mod Sets
pub mod Constants
pub mod Codes
pub mod Shifts
pub mod OnePass
pub mod Losses
pub mod OneMove
