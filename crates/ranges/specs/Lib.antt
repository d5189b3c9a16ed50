pub mod Sources
pub mod Triples
