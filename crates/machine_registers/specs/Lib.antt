pub mod Acts
pub mod Packed
pub mod Ranges
