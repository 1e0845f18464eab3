pub mod Again
pub mod Within
pub mod Replied
