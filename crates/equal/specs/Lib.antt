pub mod Promise
pub mod Working
