pub mod Program
pub mod Found
