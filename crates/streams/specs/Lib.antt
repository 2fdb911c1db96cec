-- What is promised of a stream that is fed.
pub mod Cuts
pub mod OldRoom
pub mod Stream
pub mod Cases
