pub mod Number
pub mod Order
