-- The laws that the functions cite.
pub mod Entries
pub mod Fronts
pub mod Going
pub mod Nodes
pub mod Rounds
