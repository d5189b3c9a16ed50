pub mod Chart
pub mod Layout
pub mod Reading
pub mod Fine
pub mod Fault
