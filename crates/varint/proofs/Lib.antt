-- The proofs of what specs/ states, and what the loops know.
pub mod Reading
pub mod Last
pub mod Writing
pub mod Forms
pub mod Unique
