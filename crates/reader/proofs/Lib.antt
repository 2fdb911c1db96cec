pub mod Laying
pub mod Rounds
pub mod Turns
pub mod Promised
