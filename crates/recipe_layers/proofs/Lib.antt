pub mod Digits
pub mod Answering
pub mod Turns
pub mod Counts
pub mod Chunks
pub mod Sets
