pub mod Boundaries
pub mod FirstTwo
pub mod Halves
pub mod Left
pub mod Places
