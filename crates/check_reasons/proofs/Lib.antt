pub mod Leads
pub mod Rows
pub mod Sides
pub mod Judged
pub mod Promise
