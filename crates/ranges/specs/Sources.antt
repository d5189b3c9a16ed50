-- Where the steps of a state stand among the triples of a chart of n states, which lie from `at` on.
use Rattle.std.specs.Prelude.{ℕ, ◌+◌, ◌*◌, ◌≤◌, ◌<◌, ◌≡◌, Bool, true, false, Ok, List, length, get_or}
use Rattle.std.proofs.Math.Bool.{So}
use Rattle.chart.specs.Chart.{Step}
use Rattle.chart.specs.Layout.{Earlier}
use Rattle.chart.specs.Reading.{step_at, steps_at, earlier, read_chart}
use Rattle.chart.specs.declared.Shape.{Shape}

abbrev pub source_at : List ℕ → ℕ → ℕ → ℕ
source_at bytes at i = get_or bytes (at + 3 * i) 0

abbrev pub action_at : List ℕ → ℕ → ℕ → ℕ
action_at bytes at i = get_or bytes (at + 3 * i + 1) 0

abbrev pub target_at : List ℕ → ℕ → ℕ → ℕ
target_at bytes at i = get_or bytes (at + 3 * i + 2) 0

-- t triples are there, lead from states to states, and are sorted by source
pub record Stands (bytes : List ℕ) (at t n : ℕ) : Type 0 where
  pub there : at + 3 * t ≤ length bytes
  pub few : n ≤ 64
  pub sources_in : (i : ℕ) → i < t → source_at bytes at i < n
  pub targets_in : (i : ℕ) → i < t → target_at bytes at i < n
  pub sources_rise : (i j : ℕ) → i ≤ j → j < t → source_at bytes at i ≤ source_at bytes at j

-- r is the first triple from `from` on whose source is not below s, or t
pub record Past (bytes : List ℕ) (at t from s r : ℕ) : Type 0 where
  pub onward : from ≤ r
  pub within : r ≤ t
  pub passed : (i : ℕ) → from ≤ i → i < r → source_at bytes at i < s
  pub stopped : r < t → s ≤ source_at bytes at r

-- entry s is how many triples have a source below s, so these are the triples before that entry; the entries after n are 0
pub record Sources (bytes : List ℕ) (at t n : ℕ) (first : List ℕ) : Type 0 where
  pub within : (s : ℕ) → s ≤ n → get_or first s 0 ≤ t
  pub before : (s i : ℕ) → s ≤ n → i < get_or first s 0 → source_at bytes at i < s
  pub after : (s i : ℕ) → s ≤ n → i < t → get_or first s 0 ≤ i → s ≤ source_at bytes at i
  pub beyond : (s : ℕ) → n < s → get_or first s 0 ≡ 0

-- the triples that `first` counts stand, with their sources
pub record Sorted (bytes : List ℕ) (at n : ℕ) (first : List ℕ) : Type 0 where
  pub triples : Stands bytes at (get_or first n 0) n
  pub sources : Sources bytes at (get_or first n 0) n first

-- the chart's steps, where `first` has their sources
abbrev pub steps_by : List ℕ → ℕ → ℕ → List ℕ → List Step
steps_by bytes at n first = steps_at bytes at (get_or first n 0)

-- the triples from `at` on rise: by source, then action, then target
abbrev pub TriplesRise : List ℕ → ℕ → ℕ → Type 0
TriplesRise bytes at t = (i j : ℕ) → i < j → j < t → Earlier (step_at bytes (at + 3 * i)) (step_at bytes (at + 3 * j))

-- the triples from `at` on, as many as the shape says, with their sources: they rise (`TriplesRise`, said by a test)
pub record Ordered (bytes : List ℕ) (sh : Shape) (at : ℕ) (first : List ℕ) : Type 0 where
  pub sorted : Sorted bytes at sh.n first
  pub rise : (i j : ℕ) → i < j → j < get_or first sh.n 0 → So (earlier (step_at bytes (at + 3 * i)) (step_at bytes (at + 3 * j)))
  pub all_are : get_or first sh.n 0 ≡ sh.t

-- the triples of the chart in the bytes, whose counts are those of the shape, with their sources
pub record Ranged (bytes : List ℕ) (sh : Shape) (at : ℕ) (first : List ℕ) : Type 0 where
  pub read : read_chart bytes ≡ Ok sh
  pub at_is : at ≡ 4 + sh.n + sh.m
  pub sorted : Sorted bytes at sh.n first
  pub all_are : get_or first sh.n 0 ≡ sh.t

-- the answer says whether each triple of s that bears the action leads to a state that passes
abbrev pub Leads : List ℕ → ℕ → List ℕ → ℕ → ℕ → (ℕ → Bool) → Bool → Type 0
Leads bytes at first s action passes true = (i : ℕ) → get_or first s 0 ≤ i → i < get_or first (s + 1) 0 → action_at bytes at i ≡ action → So (passes (target_at bytes at i))
Leads bytes at first s action passes false = (i : ℕ) × (get_or first s 0 ≤ i) × (i < get_or first (s + 1) 0) × (action_at bytes at i ≡ action) × (So (passes (target_at bytes at i)) → ⊥)
