pub mod Allocates
pub mod Doing
pub mod Faults
pub mod Keyed
