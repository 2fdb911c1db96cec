-- What the contracts of a compaction's passes cite.
pub mod Kept
pub mod Lasts
