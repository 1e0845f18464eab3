pub mod Names
pub mod Texts
pub mod Reading
pub mod Lines
pub mod Seen
pub mod Taking
