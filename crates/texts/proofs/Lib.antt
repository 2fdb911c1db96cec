-- The proofs of what specs/ states, and what stands behind a count.
pub mod Contents
pub mod Cases
pub mod Unique
