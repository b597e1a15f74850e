pub mod Files
pub mod Verdicts
pub mod Answers
pub mod Fitting
pub mod Writing
