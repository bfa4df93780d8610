pub mod Forms
pub mod Laws
