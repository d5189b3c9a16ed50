pub mod Packing
pub mod Shown
pub mod Told
