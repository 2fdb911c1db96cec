-- The laws that the functions cite.
pub mod Scanning
pub mod Figures
