pub mod Cells
pub mod Keeping
pub mod Bytes
pub mod Rounding
pub mod Promise
pub mod Determined
