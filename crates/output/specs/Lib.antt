-- What the contracts of bytes behind others cite.
pub mod Bytes
