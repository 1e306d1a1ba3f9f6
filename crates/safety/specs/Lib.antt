pub mod Unsafe
pub mod Nature
