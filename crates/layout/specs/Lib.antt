pub mod Bytes
pub mod FaultNumber
pub mod Faults
pub mod Frames
pub mod Kinds
pub mod Layout
pub mod Words
