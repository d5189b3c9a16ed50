pub mod Linked
pub mod Begun
pub mod Promise
pub mod Marked
