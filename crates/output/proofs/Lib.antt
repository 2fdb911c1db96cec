-- The laws that the functions cite.
pub mod Counting
pub mod Varints
