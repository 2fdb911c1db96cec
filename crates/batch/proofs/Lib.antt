-- The laws that the batch calls stand on.
pub mod Opening
pub mod Handing
pub mod Checking
pub mod Writing
pub mod Compacting
pub mod Promise
