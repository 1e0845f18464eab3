pub mod Whole
pub mod Small
pub mod Held
pub mod Steps
