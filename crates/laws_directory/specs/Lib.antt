pub mod Found
pub mod Remaining
