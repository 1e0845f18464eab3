pub mod Little
pub mod Fitted
pub mod Bytewise
pub mod Stamps
