pub mod Changing
pub mod ReadRanges
pub mod WriteConflicts
