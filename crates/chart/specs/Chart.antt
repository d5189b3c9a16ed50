-- A chart: its mode codes, one for each state; its action codes; its transitions, here called steps.
use Rattle.std.specs.Prelude.{ℕ, List, length}

pub record Step : Type 0 where
  pub source : ℕ
  pub action : ℕ
  pub target : ℕ

pub record Chart : Type 0 where
  pub modes : List ℕ
  pub codes : List ℕ
  pub steps : List Step

-- n, m and t of document 01
abbrev pub states : Chart → ℕ
states c = length c.modes

abbrev pub actions : Chart → ℕ
actions c = length c.codes

abbrev pub transitions : Chart → ℕ
transitions c = length c.steps
