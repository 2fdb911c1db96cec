-- What the contracts of the whole check cite.
pub mod Window
pub mod Marked
