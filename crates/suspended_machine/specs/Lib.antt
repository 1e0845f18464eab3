pub mod SuspendedMachines
