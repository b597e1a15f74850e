pub mod Replaying
pub mod Answers
pub mod Places
