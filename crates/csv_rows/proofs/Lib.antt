-- The proofs of what specs/ states, and the laws that the functions cite.
pub mod Answers
pub mod Strictly
