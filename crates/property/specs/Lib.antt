pub mod SheetPromise
pub mod Promise
