pub mod Rows
pub mod Lines
pub mod Gaps
pub mod FineRows
pub mod RowSteps
pub mod Loads
