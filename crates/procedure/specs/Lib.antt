pub mod Claims
pub mod Drafts
pub mod Drawings
pub mod Layout
pub mod Procedures
pub mod Reading
pub mod Scopes
pub mod Sound
