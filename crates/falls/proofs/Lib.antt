pub mod Walks
pub mod Striking
pub mod Steps
pub mod Falling
pub mod Rounding
pub mod Determined
