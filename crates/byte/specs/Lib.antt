pub mod Field
pub mod Symbols
pub mod Arithmetic
pub mod Laws
pub mod Equal
pub mod Numbers
