pub mod MachineNames
pub mod Runs
