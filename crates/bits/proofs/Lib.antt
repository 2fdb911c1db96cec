-- The laws that the contracts of bits stand on, and what marking changes.
pub mod Bits
