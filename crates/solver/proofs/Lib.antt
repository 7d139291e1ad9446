pub mod Copying
pub mod Settling
pub mod Taking
pub mod Barring
pub mod Diagonal
