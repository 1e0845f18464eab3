pub mod Firings
pub mod Numbers
pub mod UnderKeys
pub mod Keeping
pub mod Commits
pub mod Closing
pub mod Histories
pub mod Changing
