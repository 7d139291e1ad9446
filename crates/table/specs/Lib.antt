pub mod Table
pub mod Bounded
pub mod WrittenOut
