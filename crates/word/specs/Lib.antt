pub mod Bits
pub mod Words
pub mod Arithmetic
pub mod Laws
pub mod Strings
pub mod Numbers
