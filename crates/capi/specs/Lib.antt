pub mod Packing
pub mod Version
