pub mod Parities
pub mod Laws
