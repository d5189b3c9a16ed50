pub mod Smaller
pub mod Putting
pub mod Choosing
pub mod Determined
pub mod Chosen
pub mod Asked
