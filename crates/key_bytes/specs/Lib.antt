pub mod Keys
pub mod Successors
pub mod Ranges
pub mod Entries
pub mod Rooms
pub mod Forms
pub mod Numbers
