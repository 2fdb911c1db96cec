-- The laws that the proofs of the functions cite, and the proof of what specs/ promises.
pub mod Passing
pub mod Leading
pub mod Seeking
pub mod Going
pub mod Promise
