pub mod Test
pub mod Finite
pub mod Chain
