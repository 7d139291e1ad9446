pub mod Cutting
pub mod Form
pub mod Numbers
