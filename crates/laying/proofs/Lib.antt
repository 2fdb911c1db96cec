-- The laws that laying a batch out stands on.
pub mod Inside
pub mod Counting
pub mod Filling
pub mod Laying
