pub mod Arguments
pub mod Driving
pub mod Following
pub mod Misfits
pub mod Dumps
pub mod Summaries
pub mod Outputs
