pub mod Numbers
pub mod Codes
pub mod Names
