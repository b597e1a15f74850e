pub mod Thinning
pub mod Linking
pub mod Decoding
pub mod Links
pub mod Loading
pub mod Picking
pub mod Retiming
