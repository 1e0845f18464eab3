pub mod Faults
pub mod Turns
pub mod Queues
pub mod Multimaps
pub mod Blobs
