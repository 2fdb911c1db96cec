pub mod Scan
pub mod Chars
pub mod Laws
pub mod Unique
