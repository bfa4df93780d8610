pub mod Said
pub mod Logs
pub mod Scripts
pub mod Playing
pub mod Places
pub mod Stretches
pub mod Sessions
pub mod Tellings
