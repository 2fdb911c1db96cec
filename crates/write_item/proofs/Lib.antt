-- The laws that the functions cite.
pub mod Sixths
pub mod Judging
pub mod Spelling
