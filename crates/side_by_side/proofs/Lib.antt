pub mod Bytes
pub mod Table
pub mod Written
pub mod Answered
pub mod Promise
