pub mod Words
pub mod Sessions
