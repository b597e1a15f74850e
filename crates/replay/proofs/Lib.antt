pub mod Replays
pub mod Demand2
pub mod Going
pub mod Beginning
