-- What the contracts cite.
pub mod Scans
pub mod Number
