pub mod Splitting
pub mod Marking
