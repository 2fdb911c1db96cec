-- What the contracts of an item and its entry cite.
pub mod Lay
pub mod Steps
pub mod Entered
pub mod Int
