pub mod Records
pub mod Bytes
pub mod Payloads
pub mod Format
pub mod Reading
pub mod Answers
