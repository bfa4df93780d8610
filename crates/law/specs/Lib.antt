pub mod Counting
pub mod Offers
pub mod Menus
pub mod Chained
pub mod Calls
pub mod Laws
