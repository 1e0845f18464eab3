pub mod Items
pub mod Looks
pub mod Pops
pub mod Unpacked
