pub mod Laying
pub mod Heads
pub mod Entering
