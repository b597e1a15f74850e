pub mod Numbers
pub mod Editions
pub mod Payloads
pub mod Frames
pub mod Put
