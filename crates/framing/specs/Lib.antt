-- What is promised of the frames that we send.
pub mod Sending
pub mod Fed
