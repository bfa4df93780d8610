pub mod Agreeing
pub mod Bits
pub mod Entries
