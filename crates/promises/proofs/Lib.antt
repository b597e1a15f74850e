pub mod Readings
pub mod Recordings
pub mod Verdicts
pub mod Judgements
pub mod Conversions
pub mod Earlier
pub mod WorkedLogs
pub mod Promises
