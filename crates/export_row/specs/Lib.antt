-- What the contracts cite.
pub mod Outputs
