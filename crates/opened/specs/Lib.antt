pub mod Opening
pub mod States
pub mod Opens
pub mod Advancing
pub mod Listing
pub mod Guarding
