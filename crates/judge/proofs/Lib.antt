pub mod Loading
pub mod Answers
pub mod RightVerdicts
pub mod Soundness
pub mod Deciding
