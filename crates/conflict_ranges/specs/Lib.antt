pub mod Ends
pub mod Generations
pub mod Only
pub mod Segments
pub mod Writes
