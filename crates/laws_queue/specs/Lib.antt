pub mod Scripts
pub mod Laws
pub mod Answered
pub mod Counts
pub mod Indexes
