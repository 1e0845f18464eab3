pub mod Changes
pub mod Modified
pub mod Units
mod LastKeys
