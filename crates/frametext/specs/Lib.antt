pub mod FrameText
pub mod WordText
