-- The proofs of what specs/ states.
pub mod Cases
pub mod SendingCases
