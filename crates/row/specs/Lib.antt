-- What the contracts of rows in memory cite.
pub mod Ranks
