pub mod Inside
pub mod WrittenOut
