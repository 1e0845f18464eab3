pub mod Lists
pub mod Firsts
pub mod Seen
pub mod Passed
pub mod Segments
pub mod Meetings
pub mod Decided
pub mod Runs
