mod Rows
pub mod Chains
pub mod Keeping
pub mod Calls
pub mod Requests
pub mod Runs
