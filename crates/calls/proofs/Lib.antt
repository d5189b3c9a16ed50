pub mod Packing
pub mod Packable
pub mod Determined
pub mod Told
pub mod Three
