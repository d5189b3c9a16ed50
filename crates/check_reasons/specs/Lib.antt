pub mod Judging
pub mod Promise
pub mod Lines
