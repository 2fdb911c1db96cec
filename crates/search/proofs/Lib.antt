-- The laws that the search stands on.
pub mod Turning
