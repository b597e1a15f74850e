pub mod Puts
pub mod Values
pub mod Decimals
pub mod Pairs
pub mod Numbers
pub mod RoundTrip
