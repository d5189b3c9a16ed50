-- The chart file of document 01: the bytes of a chart, and the conditions on it.
use Rattle.std.specs.Prelude.{ℕ, ◌%◌, ◌/◌, ◌≤◌, ◌<◌, ◌≡◌, ◌⊎◌}
use mathlib.Core.List.{List, [], ◌∷◌, ◌++◌, Memᴰ as Mem}
use Rattle.chart.specs.Chart.{Step, Chart, states, actions, transitions}

unfoldable pub step_bytes : List Step → List ℕ
step_bytes [] = []
step_bytes (s ∷ rest) = s.source ∷ s.action ∷ s.target ∷ step_bytes rest

-- states, actions, transitions, each after its count; the last count in two bytes, low byte first; nothing after
unfoldable pub encode : Chart → List ℕ
encode c =
    states c ∷ c.modes
    ++ (actions c ∷ c.codes
    ++ (transitions c % 256 ∷ transitions c / 256 ∷ step_bytes c.steps))

-- the most bytes that a chart has: 4, then 64 for its states, 32 for its actions and three for each of 1,024 transitions
abbrev pub longest_chart : ℕ
longest_chart = 3172

-- compared by source, then action, then target
abbrev pub Earlier : Step → Step → Type 0
Earlier s u = (s.source < u.source) ⊎ ((s.source ≡ u.source) × ((s.action < u.action) ⊎ ((s.action ≡ u.action) × (s.target < u.target))))

-- each stands in R to the next
unfoldable pub Rising : {A : Type 0} → (A → A → Type 0) → List A → Type 0
Rising R [] = Unit {0}
Rising R (x ∷ []) = Unit {0}
Rising R (x ∷ (y ∷ rest)) = R x y × Rising R (y ∷ rest)

abbrev pub Bytes : List ℕ → Type 0
Bytes s = (x : ℕ) → Mem x s → x < 256

pub record StepIn (n m : ℕ) (s : Step) : Type 0 where
  pub source_in : s.source < n
  pub action_in : s.action < m
  pub target_in : s.target < n

pub record WellFormed (c : Chart) : Type 0 where
  pub states_some : 1 ≤ states c
  pub states_few : states c ≤ 64
  pub modes_bytes : Bytes c.modes
  pub actions_few : actions c ≤ 32
  pub codes_bytes : Bytes c.codes
  pub codes_rise : Rising ◌<◌ c.codes
  pub transitions_few : transitions c ≤ 1024
  pub steps_in : (s : Step) → Mem s c.steps → StepIn (states c) (actions c) s
  pub steps_rise : Rising Earlier c.steps
