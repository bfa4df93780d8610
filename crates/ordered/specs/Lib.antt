pub mod Order
pub mod Held
pub mod Seeking
