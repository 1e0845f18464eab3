pub mod Lists
pub mod Served
pub mod Numbering
pub mod Threads
pub mod Places
pub mod Gathered
pub mod Runs
