-- What the contracts cite.
pub mod Undone
