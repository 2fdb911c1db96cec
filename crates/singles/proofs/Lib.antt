pub mod Passed
pub mod Highs
