pub mod Walks
pub mod Segments
pub mod Faults
pub mod Views
