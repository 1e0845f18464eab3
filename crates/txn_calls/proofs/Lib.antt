pub mod Standing
pub mod Accepted
pub mod Views
pub mod Judging
pub mod Stored
pub mod States
pub mod Named
