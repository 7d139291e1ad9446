pub mod Window
pub mod Law
