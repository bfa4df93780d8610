pub mod Form
pub mod Menus
pub mod Exact
pub mod Offers
pub mod Logs
pub mod Deciding
