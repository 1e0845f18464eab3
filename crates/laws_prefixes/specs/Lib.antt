pub mod Worlds
pub mod Prefixes
pub mod Held
