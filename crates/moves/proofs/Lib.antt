pub mod Bits
pub mod Everywhere
pub mod Unions
pub mod Exchange
pub mod Swaps
pub mod Table
pub mod Chains
pub mod Owners
