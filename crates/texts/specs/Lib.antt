pub mod Contents
pub mod Cases
pub mod Unique
