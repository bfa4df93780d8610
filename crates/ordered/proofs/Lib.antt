pub mod Alone
pub mod Fitted
pub mod Found
pub mod Laws
pub mod Moved
pub mod Steps
