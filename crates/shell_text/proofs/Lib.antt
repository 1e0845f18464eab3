pub mod Tokens
pub mod FirstWords
pub mod Entries
