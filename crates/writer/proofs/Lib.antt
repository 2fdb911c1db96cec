-- The proofs of what specs/ states, and the laws that the functions cite.
pub mod Promised
pub mod Alone
