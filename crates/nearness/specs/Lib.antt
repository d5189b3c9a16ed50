pub mod Relation
pub mod Bisimulation
pub mod Mark
pub mod Sequence
pub mod Carried
