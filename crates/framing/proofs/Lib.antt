-- The laws of the frames that we send.
pub mod Held
pub mod Encoding
pub mod Groups
pub mod Sizes
pub mod Sent
