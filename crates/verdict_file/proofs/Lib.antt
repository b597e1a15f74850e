pub mod Vectors
pub mod Files
pub mod Verdicts
pub mod Words
pub mod Writing
pub mod Fitting
pub mod Writable
