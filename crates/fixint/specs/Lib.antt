-- What the contracts of fixed-size numbers cite, and what is stated of them.
pub mod Sizes
pub mod Unique
