pub mod Changed
pub mod Chains
pub mod Dues
pub mod Kept
pub mod Loading
pub mod Values
pub mod Versions
