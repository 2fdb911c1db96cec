-- What the demands promise of the public answers: of tables of both forms, of a new table beside an old one, of the entries' places, of what is written and read back and when it comes back byte for byte, of the rest, of a skim, of a strict reading, of one item by its path, of two messages side by side, of night batches, and of what a compaction keeps of one.
pub mod Tables
pub mod OldNew
pub mod Places
pub mod RoundTrip
pub mod Rest
pub mod Skim
pub mod Strict
pub mod ByteForByte
pub mod Finding
pub mod Comparing
pub mod Batches
pub mod Compacting
-- Laws that these are proved by, which are no promises.
pub mod Shapes
pub mod Telling
