pub mod ShortForm
pub mod Reachable
pub mod Rest
pub mod Before
pub mod Promise
pub mod Pieces
