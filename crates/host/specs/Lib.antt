pub mod Meanings
pub mod Limiting
pub mod Tallying
