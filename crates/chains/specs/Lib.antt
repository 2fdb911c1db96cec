pub mod Keeping
pub mod Examples
