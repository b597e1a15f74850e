pub mod Judging
pub mod Issuing
