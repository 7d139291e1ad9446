pub mod Reaching
pub mod Lone
pub mod Overlaid
pub mod Parted
