-- What is worked out where the rounds have settled: as many rounds as there are, and the cell of each pair.
use Prim.Native.Nat.{ℕ, ◌+◌, ◌*◌, ◌<◌}
use mathlib.Core.Path.{subst}
use mathlib.Core.List.{List}
use Rattle.settle.specs.Finite.{pairs}
use Rattle.settle.specs.Chain.{Rounds}
use Rattle.nearness.specs.Relation.{Relation}
use Rattle.relation.specs.Promise.{byte_at}
use Rattle.relation.specs.Working.{Holding, Working}
use Rattle.relation.specs.declared.Matrix.{Matrix}
use Rattle.relation.proofs.Cells.{cell_in, cell_pair}

module _ {Cell : Holding} {C : ℕ → Relation} {n : ℕ} {old new : List ℕ} {given : Matrix} (w : Working Cell C n old new given) where
  pub working_rounds : Rounds (pairs n) C given.rounds
  working_rounds = (w.settled, w.done.unsettled)

  pub working_cell : (p q : ℕ) → p < n → q < n → Cell given.rounds (p, q) (byte_at n new p q)
  working_cell p q h k = subst (λ (x : ℕ × ℕ). Cell given.rounds x (byte_at n new p q)) (cell_pair n p q k) (w.done.cells (p * n + q) (cell_in n p q h k))
