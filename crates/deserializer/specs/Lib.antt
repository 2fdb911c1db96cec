-- What is stated of the calls.
pub mod Records
pub mod Unique
