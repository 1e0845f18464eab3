pub mod Tokens
pub mod Commands
pub mod Requests
pub mod Recipes
pub mod Sessions
