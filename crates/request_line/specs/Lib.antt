pub mod History
pub mod Taking
pub mod Spans
pub mod Line
