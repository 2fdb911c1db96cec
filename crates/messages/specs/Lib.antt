-- What the contracts of messages end to end cite.
pub mod Fields
pub mod Steps
pub mod Past
pub mod Found
pub mod Word
pub mod NextMessage
