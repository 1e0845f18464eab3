pub mod OpNames
pub mod Standing
pub mod StandLaws
