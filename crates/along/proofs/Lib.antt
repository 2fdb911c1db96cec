-- The proofs of what specs/ states.
pub mod Found
pub mod Made
pub mod Settled
