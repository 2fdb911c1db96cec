-- What the functions' answers come to, over plain values.
pub mod Told
pub mod Unique
