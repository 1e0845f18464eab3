pub mod Below
pub mod Decided
pub mod Pushing
pub mod Refusals
pub mod Repeats
pub mod Reversals
pub mod Sorting
pub mod TupleOrder
