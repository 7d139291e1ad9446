pub mod Leading
pub mod Progress
