pub mod Shape
pub mod Coefficients
pub mod Link
pub mod Parity
pub mod Bounded
