pub mod Refusals
pub mod Numbers
pub mod Fields
pub mod Uses
pub mod Put
