pub mod Lent
pub mod Matching
pub mod Promise
