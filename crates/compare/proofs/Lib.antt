pub mod Found
pub mod Compared
pub mod Promise
pub mod Determined
pub mod Told
pub mod Itself
pub mod Swapped
pub mod Room
