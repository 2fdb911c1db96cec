-- Open items in a lent list, what the contracts of the steps cite, and that the public ones leave no choice.
pub mod Items
pub mod Steps
pub mod Promise
pub mod Step
