pub mod Sums
pub mod Scaling
pub mod XorLaws
