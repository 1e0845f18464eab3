pub mod Mutations
pub mod Pending
pub mod Edits
pub mod Stamps
pub mod Levels
pub mod Answers
