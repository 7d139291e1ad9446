pub mod System
pub mod Kept
pub mod Form
pub mod Steps
pub mod Moving
pub mod Reading
pub mod Giving
