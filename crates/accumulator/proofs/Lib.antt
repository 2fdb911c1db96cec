pub mod Feeding
pub mod Marks
pub mod Waiting
pub mod Unique
pub mod Progress
