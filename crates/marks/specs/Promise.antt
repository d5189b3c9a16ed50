-- What marks promises, for every chart and every lent buffer: the promise of a matrix (crate relation), which are the chart's marks.
use Rattle.std.specs.Prelude.{ℕ, ◌-◌, ◌≤◌, ◌<◌, ◌≡◌, List, ◌⊎◌, ◌↔◌}
use Rattle.settle.specs.Finite.{pairs}
use Rattle.settle.specs.Chain.{Rounds}
use Rattle.chart.specs.Chart.{Step}
use Rattle.sheet.specs.Formula.{Formula}
use Rattle.nearness.specs.Relation.{Near}
use Rattle.nearness.specs.Bisimulation.{Bisimilar}
use Rattle.nearness.specs.Mark.{Mark, TellsApart, SmallestDepth}
use Rattle.relation.specs.Promise.{byte_at, MatrixPromise}
use Rattle.relation.specs.declared.Matrix.{Matrix}
use Rattle.std.specs.Prelude.{Result}
use Rattle.refusal.specs.declared.Refusal.{Refusal}

-- the marks of a chart of n states and m actions with these steps
pub record MarksOf (n m : ℕ) (steps : List Step) (bytes : List ℕ) (given : Matrix) : Type 0 where
  pub states_said : given.states ≡ n
  -- as defined: 0 where the pair is in every Rk, else the first k with the pair not in Rk; the least k with Rk = R(k+1)
  pub marks_are : (p q : ℕ) → p < n → q < n → Mark steps p q (byte_at n bytes p q)
  pub rounds_are : Rounds (pairs n) (Near steps) given.rounds
  -- what that means
  pub zero_exactly_if_equal : (p q : ℕ) → p < n → q < n → (byte_at n bytes p q ≡ 0) ↔ Bisimilar steps p q
  pub equal_never_told_apart : (p q : ℕ) → p < n → q < n → byte_at n bytes p q ≡ 0 → (f : Formula) → TellsApart m steps f p q → ⊥
  pub else_smallest_depth : (p q : ℕ) → p < n → q < n → (byte_at n bytes p q ≡ 0 → ⊥) → SmallestDepth m steps p q (byte_at n bytes p q)
  pub rounds_greatest : (p q : ℕ) → p < n → q < n → byte_at n bytes p q ≤ given.rounds
  pub rounds_borne_or_zero : (given.rounds ≡ 0) ⊎ ((p : ℕ) × (q : ℕ) × (p < n) × (q < n) × (byte_at n bytes p q ≡ given.rounds))
  pub rounds_few : given.rounds ≤ n - 1

abbrev pub MarksPromise : List ℕ → List ℕ → List ℕ → Result Matrix Refusal → Type 0
MarksPromise = MatrixPromise MarksOf Near
