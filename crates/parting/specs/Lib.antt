pub mod PartAnswer
pub mod Parting
pub mod Pairs
pub mod Promise
pub mod Next
