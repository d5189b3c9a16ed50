pub mod Table
pub mod Written
pub mod Promise
