pub mod Toward
pub mod Treading
pub mod Splitting
pub mod Blocks
