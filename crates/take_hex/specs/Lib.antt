-- What the contracts cite.
pub mod Pairs
