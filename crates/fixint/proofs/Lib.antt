-- The proofs of what specs/ states, and what the loops know.
pub mod Digits
pub mod Numbers
pub mod Unique
