pub mod Dumps
pub mod FieldAnswers
pub mod Fields
pub mod Printable
pub mod Seen
pub mod Spellings
