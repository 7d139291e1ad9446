pub mod LineForm
pub mod Turns
pub mod Starting
