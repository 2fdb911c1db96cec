pub mod Feeding
pub mod Parts
