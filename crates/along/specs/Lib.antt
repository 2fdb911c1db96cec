-- The way along a path, and what is proved of it.
pub mod Seek
pub mod Laws
