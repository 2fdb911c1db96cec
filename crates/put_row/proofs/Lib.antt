-- The laws that the functions cite.
pub mod Items
pub mod Telling
