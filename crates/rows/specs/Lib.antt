pub mod Limits
pub mod Memory
pub mod Lent
