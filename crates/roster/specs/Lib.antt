pub mod Values
pub mod Runs
pub mod Counted
