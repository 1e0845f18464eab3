pub mod Ends
pub mod Inserted
pub mod Lends
