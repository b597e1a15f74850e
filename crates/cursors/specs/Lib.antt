pub mod Cursors
pub mod Answers
pub mod Calls
pub mod Opening
