pub mod Stands
pub mod Sound
pub mod Contents
pub mod Lives
pub mod Directories
pub mod Kinds
