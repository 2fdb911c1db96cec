-- Rows read byte by byte, and what is proved of them.
pub mod Accept
pub mod Exact
pub mod Promises
pub mod Cases
