pub mod Class
pub mod Color
pub mod Colored
pub mod Labels
