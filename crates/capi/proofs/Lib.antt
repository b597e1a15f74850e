pub mod Sizes
pub mod Unpacking
pub mod Packed
