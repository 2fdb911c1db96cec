pub mod Steps
pub mod Paths
pub mod Promise
pub mod Ways
