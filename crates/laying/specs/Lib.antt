-- What the contracts of laying a batch out cite.
pub mod Counts
pub mod Counted
