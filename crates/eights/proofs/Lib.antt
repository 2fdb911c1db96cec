-- The laws of bytes as a number.
pub mod Bytes
pub mod Digits
