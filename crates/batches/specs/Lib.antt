-- What is promised of night batches, and what the code of their calls stands on.
pub mod Fit
pub mod Reads
pub mod Good
pub mod Sorted
pub mod Starts
pub mod Search
pub mod Laws
pub mod Words
pub mod Compacting
