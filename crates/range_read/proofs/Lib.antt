pub mod Joined
pub mod Lists
pub mod Pages
pub mod Rising
pub mod Selectors
pub mod Taking
pub mod Walks
