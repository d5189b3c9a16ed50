pub mod Solving
pub mod Determined
