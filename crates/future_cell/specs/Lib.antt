pub mod Rule
pub mod Plays
pub mod Halves
pub mod Registering
pub mod Cells
