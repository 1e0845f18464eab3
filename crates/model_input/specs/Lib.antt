pub mod Orders
pub mod Forms
