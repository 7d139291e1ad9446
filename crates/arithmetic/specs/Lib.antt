pub mod Laws
pub mod Operations
pub mod Totals
pub mod Xor
