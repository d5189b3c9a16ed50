pub mod Rows
pub mod Settles
pub mod Bytes
pub mod Cells
pub mod Promise
pub mod Working
