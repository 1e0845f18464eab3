pub mod Readers
pub mod Strays
pub mod ElementKinds
pub mod RowLaws
pub mod Packed
pub mod ReplyLaws
pub mod WireFaults
