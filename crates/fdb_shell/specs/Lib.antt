pub mod Limits
pub mod Doing
pub mod Outcomes
pub mod Endings
