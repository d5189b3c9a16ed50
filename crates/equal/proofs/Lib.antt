pub mod Counting
pub mod Promise
