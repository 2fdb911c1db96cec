-- The laws that the functions' proofs cite, and that the public contract leaves no choice.
pub mod Words
pub mod Promised
