pub mod Boards
pub mod Mistakes
