pub mod Bytes
pub mod Longest
pub mod Comparison
pub mod Row
pub mod Reasons
pub mod Header
