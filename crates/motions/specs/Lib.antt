pub mod Framing
pub mod Ways
pub mod Collecting
pub mod Laws
