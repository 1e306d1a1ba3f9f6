pub mod State
pub mod Step
pub mod Runs
pub mod Colors
pub mod Running
pub mod Turn
