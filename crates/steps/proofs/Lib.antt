pub mod Bits
pub mod Leads
pub mod Walked
pub mod Filling
pub mod Determined
pub mod Stepping
