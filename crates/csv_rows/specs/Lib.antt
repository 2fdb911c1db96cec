-- That the contracts of the public calls leave no choice.
pub mod Promise
