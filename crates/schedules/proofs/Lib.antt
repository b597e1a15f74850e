pub mod Vectors
pub mod Fields
pub mod Cursor
pub mod Homes
pub mod Remaining
pub mod Accepted
