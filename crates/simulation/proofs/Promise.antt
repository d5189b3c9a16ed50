-- What the worked out cells mean, and what follows of their promise: no refusal but of the chart or the buffer, and no choice. Assumes nothing.
use Prim.Native.Nat.{ℕ, ◌<◌}
use mathlib.Core.Path.{◌≡◌, refl, sym, ap, ◌∙◌}
use mathlib.Core.Bool.{Bool, true, false, So}
use mathlib.Core.List.{List}
use native.Mathlib.Omega.{arith}
use native.Mathlib.Decide.{ℕ_discrete}
use Rattle.settle.specs.Test.{pick}
use Rattle.chart.specs.Chart.{Step}
use Rattle.sheet.proofs.Meaning.{TargetsBelow}
use Rattle.nearness.specs.Relation.{Simulating}
use Rattle.nearness.proofs.Bisimulation.{simulates_iff}
use Rattle.nearness.proofs.Rounds.{simulation_rounds_lem, simulation_rounds_le}
use Rattle.relation.specs.Promise.{byte_at, AlwaysAnswered, Never15, Determined}
use Rattle.relation.specs.declared.Matrix.{Matrix}
use Rattle.relation.proofs.Cells.{cells_few}
use Rattle.relation.proofs.Rounding.{working_rounds, working_cell}
use Rattle.relation.proofs.Promise as Matrices
use Rattle.simulation.specs.Promise.{SimulationOf}
use Rattle.simulation.specs.Working.{Working}

-- ---- what the worked out cells mean

module _ (n : ℕ) (steps : List Step) (targets : TargetsBelow n steps) {old new : List ℕ} {given : Matrix} (w : Working steps n old new given) where
  abbrev last : ℕ → ℕ → Bool
  last p q = Simulating steps given.rounds (p, q)

  cell_of : (p q : ℕ) → p < n → q < n → byte_at n new p q ≡ pick (last p q) 1 0
  cell_of = working_cell w

  module _ (b : Bool) (x : ℕ) (e : x ≡ pick b 1 0) where
    one_so : x ≡ 1 → So b
    one_so f = go b (sym e ∙ f)
      where
        go : (b : Bool) → ◌≡◌ {A = ℕ} (pick b 1 0) 1 → So b
        go true f = refl
        go false f = absurd (omega arith)

    so_one : So b → x ≡ 1
    so_one f = e ∙ ap (λ (c : Bool). pick c 1 0) f

    not_one : (x ≡ 1 → ⊥) → x ≡ 0
    not_one f = e ∙ go b (λ g. f (e ∙ g))
      where
        go : (b : Bool) → (◌≡◌ {A = ℕ} (pick b 1 0) 1 → ⊥) → ◌≡◌ {A = ℕ} (pick b 1 0) 0
        go true f = absurd (f refl)
        go false f = refl

  pub simulation_of : SimulationOf n steps new given
  simulation_of =
      record {
        states_said = w.states_said;
        one_exactly_if_simulates = λ p q h k. (
          λ f. (simulates_iff n steps targets p q h k given.rounds w.settled).0 (one_so (last p q) _ (cell_of p q h k) f),
          λ f. so_one (last p q) _ (cell_of p q h k) ((simulates_iff n steps targets p q h k given.rounds w.settled).1 f),
        );
        else_zero = λ p q h k f. not_one (last p q) _ (cell_of p q h k) f;
        rounds_are = working_rounds w;
        rounds_few = simulation_rounds_le n steps targets given.rounds (working_rounds w);
      }

-- ---- the rounds settle, so 15 never comes, and the promise leaves no choice

settles : Matrices.Settles Simulating
settles n steps some few targets = let k = simulation_rounds_lem n steps targets in (k.0, omega (arith, cells_few n few), k.2.0)

pub always_answered : AlwaysAnswered (λ n m. SimulationOf n) Simulating
always_answered = Matrices.always_answered settles

pub never_15 : Never15 (λ n m. SimulationOf n) Simulating
never_15 = Matrices.never_15 settles

alike : Matrices.Alike (λ n m. SimulationOf n)
alike n m steps a b g h s u = (
  Matrices.same_matrix n (Simulating steps) g h s.states_said u.states_said s.rounds_are u.rounds_are,
  λ p q i j.
      let one = s.one_exactly_if_simulates p q i j in
      let too = u.one_exactly_if_simulates p q i j in
      elim (ℕ_discrete (byte_at n a p q) 1) [ yes e ↦ e ∙ sym (too.1 (one.0 e)) | no f ↦ s.else_zero p q i j f ∙ sym (u.else_zero p q i j (λ e. f (one.1 (too.0 e)))) ],
)

pub simulation_determined : Determined (λ n m. SimulationOf n) Simulating
simulation_determined = Matrices.matrix_determined settles alike
