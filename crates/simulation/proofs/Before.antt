-- The cells are what the byte matrix said after as many rounds: 1 where its cell was 0, else 0. Assumes nothing.
use Prim.Native.Nat.{ℕ, ◌<◌}
use mathlib.Core.Path.{◌≡◌, sym, ap, ◌∙◌}
use mathlib.Core.Bool.{Bool, false}
use mathlib.Core.List.{List}
use mathlib.Core.Logic.{inl, inr}
use Rattle.settle.specs.Test.{pick}
use Rattle.settle.proofs.Test.{tested, picked, unpicked}
use Rattle.settle.proofs.Finite.{pairs_i}
use Rattle.chart.specs.Chart.{Step}
use Rattle.sheet.proofs.Meaning.{TargetsBelow}
use Rattle.nearness.specs.Relation.{Simulating}
use Rattle.nearness.proofs.Bisimulation.{simulates_iff}
use Rattle.relation.specs.Bytes.{round_of, zero_in, byte_after}
use Rattle.relation.specs.Promise.{byte_at}
use Rattle.relation.specs.declared.Matrix.{Matrix}
use Rattle.relation.proofs.Bytes.{zero_after}
use Rattle.simulation.specs.Promise.{SimulationOf}

module _ (n : ℕ) (steps : List Step) (targets : TargetsBelow n steps) {bytes : List ℕ} {given : Matrix} (w : SimulationOf n steps bytes given) (p q : ℕ) (p_in : p < n) (q_in : q < n) where
  cell_is : byte_at n bytes p q ≡ pick (Simulating steps given.rounds (p, q)) 1 0
  cell_is =
      let one = w.one_exactly_if_simulates p q p_in q_in in
      let last = simulates_iff n steps targets p q p_in q_in given.rounds w.rounds_are.0 in
      elim (tested (Simulating steps given.rounds (p, q))) [
        | inl t ↦ one.1 (last.0 t) ∙ sym (picked 1 0 _ t)
        | inr f ↦ w.else_zero p q p_in q_in (λ e. f (last.1 (one.0 e))) ∙ sym (unpicked 1 0 _ f)
      ]

  pub simulation_as_bytes : byte_at n bytes p q ≡ pick (zero_in (byte_after false steps given.rounds) (p, q)) 1 0
  unfolding round_of
  simulation_as_bytes = cell_is ∙ ap (λ (b : Bool). pick b 1 0) (sym (zero_after false steps n targets given.rounds (p, q) (pairs_i n p q p_in q_in)))
