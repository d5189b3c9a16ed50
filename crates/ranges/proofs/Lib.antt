pub mod Counting
pub mod Ranges
pub mod Rising
pub mod Determined
