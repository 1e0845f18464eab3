pub mod SuspendedMachines
pub mod Turns
pub mod Leading
pub mod Stacks
pub mod Finished
pub mod Replayed
pub mod Summaries
