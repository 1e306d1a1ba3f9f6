pub mod Table
pub mod Ranges
pub mod View
