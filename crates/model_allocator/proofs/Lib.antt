mod Rows
pub mod Acting
pub mod Codes
pub mod Digits
pub mod Keeping
pub mod Keys
pub mod Opening
pub mod Reading
pub mod Trying
pub mod Viewing
pub mod Windows
