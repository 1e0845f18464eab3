pub mod Stands
pub mod StandLaws
pub mod Accesses
pub mod Judging
pub mod Logging
