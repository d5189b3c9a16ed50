pub mod Promise
pub mod Halves
pub mod Stored
