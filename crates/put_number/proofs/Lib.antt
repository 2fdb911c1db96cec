-- The laws that the functions cite.
pub mod Laying
pub mod Decimals
