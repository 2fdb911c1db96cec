-- The proofs of what specs/ states, and what the loops know.
pub mod Widths
pub mod Scan
pub mod Points
pub mod Chars
pub mod Laws
pub mod Unique
