pub mod Effects
pub mod Homes
pub mod Starts
pub mod After
pub mod Settled
pub mod Crashes
