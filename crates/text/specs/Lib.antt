pub mod Reports
pub mod Texts
