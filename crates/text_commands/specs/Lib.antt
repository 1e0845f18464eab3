pub mod Firings
pub mod Texts
pub mod Scenes
