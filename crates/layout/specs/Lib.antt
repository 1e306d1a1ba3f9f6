pub mod Layout
pub mod Arrays
