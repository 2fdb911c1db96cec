-- What the contracts cite.
pub mod Taking
pub mod Field
