pub mod Instrumented
pub mod Answer
pub mod Arrays
