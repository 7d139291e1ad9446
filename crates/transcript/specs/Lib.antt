pub mod Lines
pub mod Printed
pub mod Steps
pub mod Transcript
