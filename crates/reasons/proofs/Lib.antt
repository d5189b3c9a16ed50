pub mod Linked
pub mod Begun
pub mod Owed
pub mod Promise
pub mod Written
pub mod Room
