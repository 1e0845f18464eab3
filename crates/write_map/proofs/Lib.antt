pub mod Alike
pub mod Edited
pub mod Filled
pub mod Kept
pub mod Logs
pub mod Splits
pub mod Steps
