pub mod Alone
pub mod Weaving
pub mod OneOrder
