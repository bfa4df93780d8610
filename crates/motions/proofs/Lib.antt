pub mod Frames
pub mod Framed
pub mod Operators
pub mod Anys
pub mod Adds
pub mod Arms
