-- What the questions of document 02 mean, one file a request; T-08 has three.
pub mod Path
pub mod Differ
pub mod Rows
pub mod Messages
pub mod Batch
pub mod Compact
pub mod Listed
pub mod Csv
pub mod Cases
pub mod FindAnswer
pub mod CompareAnswer
pub mod BatchWritten
pub mod BatchChecked
pub mod BatchFound
pub mod OpenAnswer
pub mod CsvAnswer
