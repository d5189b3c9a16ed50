pub mod Undivided
pub mod Putting
pub mod Rounds
pub mod Marked
pub mod Determined
