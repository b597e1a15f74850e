pub mod Frames
pub mod Access
pub mod Events
pub mod Stored
pub mod StepArea
pub mod Segments
