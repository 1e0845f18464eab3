pub mod Finite
pub mod Spans
