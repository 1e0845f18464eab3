pub mod Ends
pub mod Lines
pub mod Growing
pub mod InputLines
pub mod Places
pub mod Reading
pub mod Stops
pub mod Texts
