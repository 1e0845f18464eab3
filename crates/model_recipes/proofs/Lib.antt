pub mod Seeing
pub mod Pairs
pub mod Calling
pub mod Indexes
pub mod Queueing
pub mod Alone
pub mod Listing
pub mod Counting
mod CountRows
pub mod Pieces
pub mod Writing
