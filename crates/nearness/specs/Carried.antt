-- A map of states that keeps and reflects steps, with a one-to-one map of actions. It need not be one-to-one on the states.
use Rattle.std.specs.Prelude.{ℕ, ◌<◌, ◌≡◌}
use mathlib.Core.List.{List, Memᴰ as Mem}
use Rattle.chart.specs.Chart.{Step}

-- f maps the states below n, and g the actions, of a chart with the steps S into one with the steps S'
pub record Carries (n : ℕ) (S S' : List Step) (f g : ℕ → ℕ) : Type 0 where
  pub keeps : (t : Step) → Mem t S → Mem (record { source = f t.source; action = g t.action; target = f t.target }) S'
  pub reflects : (p : ℕ) → p < n → (u : Step) → Mem u S' → u.source ≡ f p → (t : Step) × Mem t S × (t.source ≡ p) × (u.action ≡ g t.action) × (u.target ≡ f t.target)
  pub one_to_one : (t u : Step) → Mem t S → Mem u S → g t.action ≡ g u.action → t.action ≡ u.action
