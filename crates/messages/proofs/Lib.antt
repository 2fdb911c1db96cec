-- The laws that the contracts of messages end to end stand on.
pub mod Steps
pub mod Words
pub mod Keyed
pub mod Past
pub mod Fitting
pub mod SoFar
