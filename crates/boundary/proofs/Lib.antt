pub mod Pages
pub mod Entries
pub mod Rows
pub mod Calls
pub mod Whole
