pub mod Heap
pub mod Lent
pub mod Search
