pub mod Digits
pub mod Packet
pub mod Reading
pub mod Writing
