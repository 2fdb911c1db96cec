pub mod Numbers
pub mod Fields
pub mod Puts
pub mod Sums
