-- The laws that the functions cite.
pub mod Numbers
pub mod Contents
pub mod Hexed
