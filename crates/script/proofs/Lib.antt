pub mod Digits
pub mod Fresh
pub mod Parts
pub mod Standing
pub mod Texted
