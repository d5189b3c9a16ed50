-- The table of a chart's steps, as words, n words a row.
use Rattle.std.specs.Prelude.{ℕ, ◌+◌, ◌*◌, ◌^◌, ◌≤◌, ◌<◌, ◌≡◌, ◌↔◌, length, get_or, set}
use Rattle.std.proofs.Math.Bool.{So}
use mathlib.Core.List.{List, map, Memᴰ as Mem}
use Rattle.std.specs.Int.Bits.{bit_or}
use Rattle.chart.specs.Chart.{Step}
use Rattle.chart.specs.Reading.{read_chart, step_at}
use Rattle.chart.specs.declared.Shape.{Shape}
use Rattle.words.specs.Words.{member}
use Rattle.steps.specs.declared.table.Direction.{Direction}
use Rattle.steps.specs.declared.table.Triple.{Triple}
use Rattle.steps.specs.declared.table.Direction.TheVariants.{Forth, Back}
use Rattle.std.specs.Prelude.{Ok}

-- the bytes were read as a chart of these counts
abbrev pub ReadAs : List ℕ → Shape → Type 0
ReadAs chart shape = read_chart chart ≡ Ok shape

-- the step (s, a, u) is one of them
abbrev pub HasStep : List Step → ℕ → ℕ → ℕ → Type 0
HasStep steps s a u = Mem (record { source = s; action = a; target = u }) steps

-- for a chart of n states and m actions: bit s of word u is set exactly if the chart has the step (s, a, u), in row a + 1 for this a, in row 0 for
-- some a. A row has n words; no word has a bit at n or above, and none after the rows has any
pub record Table (n m : ℕ) (steps : List Step) (into : List ℕ) : Type 0 where
  pub room : (m + 1) * n ≤ length into
  pub no_bit_above : (e : ℕ) → get_or into e 0 < 2 ^ n
  pub by_action : (a u s : ℕ) → a < m → u < n → So (member (get_or into ((a + 1) * n + u) 0) s) ↔ HasStep steps s a u
  pub by_any : (u s : ℕ) → u < n → So (member (get_or into u 0) s) ↔ ((a : ℕ) × HasStep steps s a u)
  pub none_after : (e : ℕ) → (m + 1) * n ≤ e → get_or into e 0 ≡ 0

-- ---- the steps turned back

-- the step from the target to the source
abbrev pub turn : Step → Step
turn v = record { source = v.target; action = v.action; target = v.source }

-- a step as it is, or turned back
abbrev pub taken : Direction → Step → Step
taken Forth v = v
taken Back v = turn v

-- the steps as they are, or all of them turned back
abbrev pub directed : Direction → List Step → List Step
directed Forth steps = steps
directed Back steps = map turn steps

-- a table has m + 1 rows of n words, none with a bit at n or above
pub record Sized (n m : ℕ) (into : List ℕ) : Type 0 where
  pub room : (m + 1) * n ≤ length into
  pub no_bit_above : (e : ℕ) → get_or into e 0 < 2 ^ n

-- ---- what the parts say that make it

-- the step of a triple
abbrev pub step_of : Triple → Step
step_of v = record { source = v.source; action = v.action; target = v.target }

-- triple number i of an accepted chart
abbrev pub triple_at : List ℕ → Shape → ℕ → Step
triple_at chart shape i = step_at chart (4 + shape.n + shape.m + 3 * i)

-- no word has a bit
abbrev pub Blank : List ℕ → Type 0
Blank into = (e : ℕ) → get_or into e 0 ≡ 0

-- bit s of word e is set, all else is as it was
abbrev pub with_bit : ℕ → ℕ → List ℕ → List ℕ
with_bit s e into = set into e (bit_or (get_or into e 0) (2 ^ s))

-- the source's bit is set in the target's word, in row 0 and in the action's own
abbrev pub with_step : ℕ → Step → List ℕ → List ℕ
with_step n v into = with_bit v.source ((v.action + 1) * n + v.target) (with_bit v.source v.target into)

-- of the triples from `first` on, r is the number of the first with a source later than s, or t
abbrev pub StopsAt : List ℕ → Shape → ℕ → ℕ → ℕ → Type 0
StopsAt chart shape s first r =
    (first ≤ r) × (r ≤ shape.t)
    × ((i : ℕ) → first ≤ i → i < r → (triple_at chart shape i).source ≤ s)
    × (r < shape.t → s < (triple_at chart shape r).source)
