pub mod Served
pub mod Framing
pub mod Steps
pub mod Tops
