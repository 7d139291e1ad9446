pub mod Checking
pub mod ErrorNumber
pub mod Reading
pub mod Steps
