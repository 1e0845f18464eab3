pub mod Calling
pub mod Outcomes
pub mod Answers
