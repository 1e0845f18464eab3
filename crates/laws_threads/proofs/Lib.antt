pub mod Lists
pub mod Alone
pub mod Places
pub mod Weaving
pub mod Resting
pub mod Turns
