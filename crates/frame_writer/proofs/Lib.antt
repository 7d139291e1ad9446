pub mod Listed
pub mod Only
pub mod Puts
