-- The laws that the function cites, and that the row told is the one exported.
pub mod Once
pub mod Passes
pub mod Exports
