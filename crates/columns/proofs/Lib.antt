-- The laws that the functions cite.
pub mod Styled
pub mod Rows
