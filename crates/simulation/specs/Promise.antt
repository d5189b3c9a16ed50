-- What simulation promises, for every chart and every lent buffer: the promise of a matrix (crate relation), which is the largest simulation.
use Rattle.std.specs.Prelude.{ℕ, ◌-◌, ◌*◌, ◌≤◌, ◌<◌, ◌≡◌, List, ◌↔◌}
use Rattle.settle.specs.Finite.{pairs}
use Rattle.settle.specs.Chain.{Rounds}
use Rattle.chart.specs.Chart.{Step}
use Rattle.nearness.specs.Relation.{Simulating}
use Rattle.nearness.specs.Bisimulation.{Simulates}
use Rattle.relation.specs.Promise.{byte_at, MatrixPromise}
use Rattle.relation.specs.declared.Matrix.{Matrix}
use Rattle.std.specs.Prelude.{Result}
use Rattle.refusal.specs.declared.Refusal.{Refusal}

-- the largest simulation of a chart of n states with these steps
pub record SimulationOf (n : ℕ) (steps : List Step) (bytes : List ℕ) (given : Matrix) : Type 0 where
  pub states_said : given.states ≡ n
  pub one_exactly_if_simulates : (p q : ℕ) → p < n → q < n → (byte_at n bytes p q ≡ 1) ↔ Simulates steps p q
  pub else_zero : (p q : ℕ) → p < n → q < n → (byte_at n bytes p q ≡ 1 → ⊥) → byte_at n bytes p q ≡ 0
  -- the least k with k rounds equal to k + 1
  pub rounds_are : Rounds (pairs n) (Simulating steps) given.rounds
  pub rounds_few : given.rounds ≤ n * n - n

abbrev pub SimulationPromise : List ℕ → List ℕ → List ℕ → Result Matrix Refusal → Type 0
SimulationPromise = MatrixPromise (λ n m. SimulationOf n) Simulating
