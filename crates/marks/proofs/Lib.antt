pub mod Promise
pub mod Before
