pub mod Matched
pub mod Formulas
pub mod Mark
pub mod Bisimulation
pub mod Rounds
pub mod Carried
