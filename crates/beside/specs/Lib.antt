pub mod Partner
pub mod Chosen
pub mod Beside
pub mod Reading
