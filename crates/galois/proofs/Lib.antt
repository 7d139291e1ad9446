pub mod Linear
pub mod Tests
pub mod Laws
pub mod Remainders
pub mod Steps
