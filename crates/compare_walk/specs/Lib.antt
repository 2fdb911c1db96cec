-- What the contracts of the walk over both messages cite.
pub mod Steps
pub mod Walked
pub mod Begun
