pub mod StepWords
pub mod Trails
pub mod Holders
pub mod Givers
pub mod Entering
pub mod Acting
pub mod Turns
