-- What the contracts of an item's own bytes cite.
pub mod Own
pub mod Pooled
