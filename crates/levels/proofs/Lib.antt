pub mod Levels
pub mod Stretching
pub mod Tasks
pub mod InnerEvents
pub mod Endings
pub mod Gaps
pub mod Passes
pub mod Counting
