pub mod Elements
pub mod Packing
pub mod Refused
