pub mod Firing
pub mod Watching
pub mod Watches
pub mod Events
