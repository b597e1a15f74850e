pub mod Words
pub mod Costs
pub mod Segments
pub mod Weighing
