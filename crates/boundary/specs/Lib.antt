pub mod Texts
pub mod Settings
pub mod Playing
