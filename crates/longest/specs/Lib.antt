pub mod Header
pub mod Longest
