-- The laws that the contracts of rows in memory stand on.
pub mod Bytes
pub mod Ranks
