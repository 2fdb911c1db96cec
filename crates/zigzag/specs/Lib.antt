-- What the contracts of signed numbers cite, and what is stated of them.
pub mod Widths
pub mod Unique
