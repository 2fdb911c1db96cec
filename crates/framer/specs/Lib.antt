-- What the contracts cite, and that the public one leaves no choice.
pub mod Steps
pub mod Promise
