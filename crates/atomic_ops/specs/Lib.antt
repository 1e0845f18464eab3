pub mod Joinings
pub mod Faults
