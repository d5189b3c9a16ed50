pub mod Modal
pub mod Operands
pub mod Evaluating
pub mod Rows
pub mod Stepped
