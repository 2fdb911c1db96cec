-- The laws that a compaction's passes stand on.
pub mod Lasting
pub mod Kept
pub mod Passing
pub mod Keeping
pub mod Room
pub mod Laying
