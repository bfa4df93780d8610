pub mod Bytes
pub mod Decoding
pub mod Frames
pub mod Kinds
pub mod Ranges
pub mod Ranged
