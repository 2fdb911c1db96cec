-- What each case of an answer comes to, over plain values.
pub mod Told
pub mod Marks
