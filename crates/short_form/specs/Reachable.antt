-- The states that can be reached from a state, by any number of steps of any action, and the runs of a chart.
use Rattle.std.specs.Prelude.{ℕ, suc, ◌≡◌, ◌⊎◌}
use mathlib.Core.List.{List, Memᴰ as Mem}
use Rattle.chart.specs.Chart.{Step}

pub data Reachable (steps : List Step) : ℕ → ℕ → Type 0 where
  stay : {s : ℕ} → Reachable steps s s
  onward : {s u : ℕ} (t : Step) → Mem t steps → t.source ≡ s → Reachable steps t.target u → Reachable steps s u

-- some step leads from s to u
abbrev pub Moves : List Step → ℕ → ℕ → Type 0
Moves steps s u = (t : Step) × Mem t steps × (t.source ≡ s) × (t.target ≡ u)

-- no step leaves s
abbrev pub Stuck : List Step → ℕ → Type 0
Stuck steps s = (t : Step) → Mem t steps → t.source ≡ s → ⊥

-- s is left for u by a step, or kept where it is stuck
abbrev pub Goes : List Step → ℕ → ℕ → Type 0
Goes steps s u = Moves steps s u ⊎ (Stuck steps s × (u ≡ s))

-- a run from s: it goes on for ever, or until it is stuck
pub record Run (steps : List Step) (s : ℕ) (at : ℕ → ℕ) : Type 0 where
  pub starts : at 0 ≡ s
  pub goes : (k : ℕ) → Goes steps (at k) (at (suc k))
