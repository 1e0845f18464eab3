pub mod MachineModel
pub mod Packed
pub mod Polls
pub mod Steps
