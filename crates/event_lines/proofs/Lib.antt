pub mod Again
pub mod EventReading
pub mod Lawful
