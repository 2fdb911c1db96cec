-- The laws that the functions' proofs cite.
pub mod Laying
pub mod Turns
pub mod Items
pub mod Rounds
pub mod Root
