-- What the contracts of the batch calls cite.
pub mod Opened
pub mod Writing
pub mod Compacting
pub mod Promise
pub mod Taking
