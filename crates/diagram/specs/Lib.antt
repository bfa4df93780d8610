pub mod Valued
pub mod Plans
pub mod Scopes
pub mod Owning
pub mod Opening
pub mod Parts
pub mod Carrying
