-- What the contracts along the path cite, and that the public one leaves no choice.
pub mod PassAnswer
pub mod Steps
pub mod Promise
