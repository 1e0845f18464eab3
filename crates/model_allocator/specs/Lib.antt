pub mod Acts
pub mod Counters
pub mod Granting
