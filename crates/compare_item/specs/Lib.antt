-- What the contracts of an item on both sides cite.
pub mod Pairs
pub mod Items
pub mod Taken
pub mod Entered
