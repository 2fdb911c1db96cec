-- The laws that the whole check stands on.
pub mod Windows
pub mod Rises
pub mod Judged
