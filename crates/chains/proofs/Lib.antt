-- The proofs of what specs/ states.
pub mod Keeping
pub mod Examples
