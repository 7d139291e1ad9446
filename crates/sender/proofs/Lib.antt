mod Places
mod Rows
pub mod Streams
pub mod Runs
