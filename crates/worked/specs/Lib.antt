pub mod Files
pub mod Drawn
pub mod Worked
