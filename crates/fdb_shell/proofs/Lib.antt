pub mod Doing
pub mod Commands
pub mod Printed
pub mod Lines
pub mod Steps
pub mod Within
pub mod Tops
mod Layers
