pub mod Lists
pub mod Runs
pub mod Pairing
pub mod Wholes
pub mod Replied
