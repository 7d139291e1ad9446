pub mod Checks
pub mod Cuts
pub mod Sizes
pub mod Texts
