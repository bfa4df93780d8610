pub mod Below
pub mod Tables
