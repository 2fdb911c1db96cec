-- What the loop needs of a varint.
pub mod Steps
