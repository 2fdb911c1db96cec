pub mod Trailers
pub mod Numbered
pub mod Checks
pub mod Stretches
pub mod Longest
pub mod Unique
