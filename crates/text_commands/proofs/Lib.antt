pub mod Commits
pub mod Scenes
pub mod Endings
pub mod Limits
pub mod Written
