pub mod Product
pub mod Remainder
