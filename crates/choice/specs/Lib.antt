pub mod Choice
pub mod Search
pub mod Marked
