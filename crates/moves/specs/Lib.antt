pub mod Exchange
pub mod Reach
pub mod Table
