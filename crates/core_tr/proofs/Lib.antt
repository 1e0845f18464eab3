pub mod Calls
pub mod Steps
mod Answering
mod Replied
