pub mod Live
pub mod Plain
pub mod Guards
pub mod Demands
