pub mod Filled
pub mod Printed
