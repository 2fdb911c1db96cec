-- The laws that the function cites, and that the message taken is the one imported.
pub mod Passes
pub mod Imports
