-- What the contracts of varints cite, and what is stated of them.
pub mod Takes
pub mod Put
pub mod Forms
pub mod Unique
