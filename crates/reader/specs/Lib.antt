-- What the contracts of the cycle cite, and that the public ones leave no choice.
pub mod Steps
pub mod Promise
pub mod Begun
