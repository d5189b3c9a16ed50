pub mod Comparison
pub mod Found
pub mod Promise
