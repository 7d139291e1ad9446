pub mod Refusals
pub mod BatchOutcome
pub mod Copying
pub mod Reading
pub mod Barred
