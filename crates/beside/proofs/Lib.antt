-- The proofs of what specs/ states.
pub mod Same
pub mod Empty
pub mod Turned
pub mod Few
pub mod Readings
pub mod Owns
pub mod Pairs
pub mod Paths
