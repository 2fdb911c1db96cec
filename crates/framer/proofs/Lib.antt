-- The laws that the functions cite.
pub mod Runs
pub mod Zeros
pub mod Sizing
pub mod Groups
pub mod Promised
