pub mod Streams
pub mod Logs
pub mod Law
