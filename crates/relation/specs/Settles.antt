-- What rounds on words come to: the relations C settle, and the rows hold the last.
use Rattle.std.specs.Prelude.{ℕ}
use Rattle.settle.specs.Finite.{pairs}
use Rattle.settle.specs.Chain.{Rounds}
use Rattle.nearness.specs.Relation.{Relation}
use Rattle.relation.specs.Rows.{Holds}
use Rattle.relation.specs.declared.Settled.{Settled}

pub record Settles (n : ℕ) (C : ℕ → Relation) (s : Settled) : Type 0 where
  pub rows_hold : Holds n (C s.rounds) s.rows
  pub rounds_are : Rounds (pairs n) C s.rounds
