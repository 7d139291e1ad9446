pub mod Answered
pub mod Carried
pub mod Exactly
pub mod Unused
pub mod Waiting
