pub mod Stands
pub mod Answering
