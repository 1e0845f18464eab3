pub mod Events
pub mod Heads
pub mod Pairs
pub mod Orders
pub mod Rows
