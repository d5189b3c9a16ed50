pub mod Laws
pub mod Longest
pub mod Printed
pub mod Promise
