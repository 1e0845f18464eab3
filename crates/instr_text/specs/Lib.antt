pub mod Saying
pub mod Standing
pub mod Taken
