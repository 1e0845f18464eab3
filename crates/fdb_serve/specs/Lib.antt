pub mod Serving
pub mod Standing
pub mod Outcomes
pub mod Endings
