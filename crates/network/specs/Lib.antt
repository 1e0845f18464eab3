pub mod Posts
pub mod Serving
pub mod ServerStates
pub mod Clients
pub mod Pairing
