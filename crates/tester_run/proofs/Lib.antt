pub mod Reading
pub mod Tellings
pub mod Workers
pub mod Tops
pub mod Calls
pub mod Rows
