pub mod Orders
pub mod Ranges
pub mod SuccessorLaws
pub mod Words
