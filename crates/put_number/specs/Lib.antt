-- What the contracts cite.
pub mod Lays
