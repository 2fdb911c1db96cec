-- Two messages gone over at once, as code does it, and what is stated of that and of the differences.
pub mod Meeting
pub mod Laws
pub mod Paths
