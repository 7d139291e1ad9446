pub mod State
pub mod Block
pub mod Limits
pub mod Sending
pub mod Runs
