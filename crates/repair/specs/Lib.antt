pub mod Losses
pub mod Law
pub mod Tight
