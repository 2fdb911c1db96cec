-- The proofs of the laws that the functions' proofs cite.
pub mod Leaves
pub mod Pairs
pub mod Entering
