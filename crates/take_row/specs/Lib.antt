-- What the contracts cite.
pub mod Messages
pub mod Message
