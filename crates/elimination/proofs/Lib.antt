pub mod Beginnings
pub mod Reducing
pub mod Settling
pub mod Joining
