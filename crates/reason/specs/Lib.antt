pub mod Line
pub mod Good
pub mod Spelled
pub mod Own
