-- What the contracts of an entry's words cite.
pub mod Words
