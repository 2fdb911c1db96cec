-- What the contracts of a list's passes cite.
pub mod Steps
pub mod Put
pub mod Entered
pub mod Begun
