pub mod Asking
pub mod Faults
