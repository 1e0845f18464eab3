pub mod Elements
pub mod Requests
pub mod Replies
pub mod Faults
pub mod Refusals
pub mod Apart
pub mod Reading
