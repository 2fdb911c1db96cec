-- What the contracts of leaves cite, and what is stated of them.
pub mod Leaves
pub mod Unique
