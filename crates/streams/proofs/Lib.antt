pub mod Places
pub mod Looking
pub mod Putting
pub mod Blocks
pub mod Sharing
