pub mod Values
pub mod Converting
pub mod Puts
pub mod Writing
