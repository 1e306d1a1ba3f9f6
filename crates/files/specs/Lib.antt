pub mod Program
pub mod Reading
pub mod Writing
pub mod Held
pub mod Parsing
pub mod Inside
