pub mod Search
pub mod Sums
pub mod Chunks
pub mod Decoding
