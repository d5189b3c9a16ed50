-- Strong bisimulations (004, section 4) and simulations, and the unions of them all.
use Rattle.std.specs.Prelude.{ℕ, ◌≡◌, Bool}
use Rattle.std.proofs.Math.Bool.{So}
use mathlib.Core.List.{List, Memᴰ as Mem}
use Rattle.chart.specs.Chart.{Step}

-- if p R q and p steps to p' by an action, then q steps to some q' by the same action with p' R q'
pub record IsSimulation (steps : List Step) (R : ℕ → ℕ → Type 0) : Type 0 where
  pub forth : (p q : ℕ) → R p q → (t : Step) → Mem t steps → t.source ≡ p → (u : Step) × Mem u steps × (u.source ≡ q) × (u.action ≡ t.action) × R t.target u.target

-- and the same of q's steps
abbrev pub IsBisimulation : List Step → (ℕ → ℕ → Type 0) → Type 0
IsBisimulation steps R = IsSimulation steps R × IsSimulation steps (λ p q. R q p)

abbrev pub Of : (ℕ → ℕ → Bool) → ℕ → ℕ → Type 0
Of R p q = So (R p q)

-- q simulates p; p and q are equal: some simulation, some strong bisimulation, relates them
abbrev pub Simulates : List Step → ℕ → ℕ → Type 0
Simulates steps p q = (R : ℕ → ℕ → Bool) × IsSimulation steps (Of R) × So (R p q)

abbrev pub Bisimilar : List Step → ℕ → ℕ → Type 0
Bisimilar steps p q = (R : ℕ → ℕ → Bool) × IsBisimulation steps (Of R) × So (R p q)

-- the same over relations of any kind, which no contract can name: the laws `simulates_any` and `bisimilar_any` say that they are no more
abbrev pub SimulatesAny : List Step → ℕ → ℕ → Type 1
SimulatesAny steps p q = (R : ℕ → ℕ → Type 0) × IsSimulation steps R × R p q

abbrev pub BisimilarAny : List Step → ℕ → ℕ → Type 1
BisimilarAny steps p q = (R : ℕ → ℕ → Type 0) × IsBisimulation steps R × R p q
