-- What the contracts of a comparison cite, and that the public one leaves no choice.
pub mod Pairs
pub mod Promise
