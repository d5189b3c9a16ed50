-- How the line is found: triple by triple, the first whose answers all give pairs of smaller nonzero marks.
use Rattle.std.specs.Prelude.{ℕ, ◌+◌, ◌*◌, ◌≤◌, ◌<◌, ◌≡◌, Bool, true, false, Option, Some, None, List, length, get_or, ltb, ◌&&◌}
use Rattle.chart.specs.Chart.{Step}
use Rattle.chart.specs.Reading.{step_at}
use Rattle.ranges.specs.Sources.{action_at, target_at, steps_by}
use Rattle.reason.specs.Line.{Line, line_at}
use Rattle.reason.specs.Own.{Chosen}
use Rattle.choice.specs.Choice.{mark_in}

-- the answer says whether each triple of from .. to that bears the action leads to a u where `cell u` is not 0 and below `mark`
abbrev pub SmallerAll : List ℕ → ℕ → ℕ → ℕ → ℕ → (ℕ → ℕ) → ℕ → Bool → Type 0
SmallerAll bytes at from to action cell mark true = (j : ℕ) → from ≤ j → j < to → action_at bytes at j ≡ action → (0 < cell (target_at bytes at j)) × (cell (target_at bytes at j) < mark)
SmallerAll bytes at from to action cell mark false = (j : ℕ) × (from ≤ j) × (j < to) × (action_at bytes at j ≡ action) × ((0 < cell (target_at bytes at j)) × (cell (target_at bytes at j) < mark) → ⊥)

-- a nonzero mark below another
abbrev pub smaller : ℕ → ℕ → Bool
smaller cell mark = ltb 0 cell && ltb cell mark

-- r is the first triple of low .. high whose move has all its pairs smaller, or none of them; `cell` gives the mark of the targets x and y of the
-- move and of its answer
pub record FirstMove (bytes : List ℕ) (at low high from to : ℕ) (cell : ℕ → ℕ → ℕ) (mark r : ℕ) : Type 0 where
  pub onward : low ≤ r
  pub passed : (i : ℕ) → low ≤ i → i < r → SmallerAll bytes at from to (action_at bytes at i) (cell (target_at bytes at i)) mark false
  pub found : r < high → SmallerAll bytes at from to (action_at bytes at r) (cell (target_at bytes at r)) mark true

-- the first step of s whose move has all its pairs smaller, where o answers, or that none has
abbrev pub MoveFound : List ℕ → ℕ → List ℕ → ℕ → ℕ → (ℕ → ℕ → ℕ) → ℕ → Option ℕ → Type 0
MoveFound bytes at first s o cell mark None = FirstMove bytes at (get_or first s 0) (get_or first (s + 1) 0) (get_or first o 0) (get_or first (o + 1) 0) cell mark (get_or first (s + 1) 0)
MoveFound bytes at first s o cell mark (Some i) = (i < get_or first (s + 1) 0) × FirstMove bytes at (get_or first s 0) (get_or first (s + 1) 0) (get_or first o 0) (get_or first (o + 1) 0) cell mark i

-- the line of the pair (p, q) that moves by a step on a side
abbrev pub line_by : ℕ → ℕ → ℕ → Step → Line
line_by p q side s = record { p = p; q = q; side = side; action = s.action; target = s.target }

-- the move of a side by a triple gives the chosen line of the pair (p, q)
abbrev pub ChosenMove : List ℕ → ℕ → ℕ → List ℕ → List ℕ → ℕ → ℕ → ℕ × ℕ → Type 0
ChosenMove bytes at n first matrix p q x = (x.1 < get_or first n 0) × Chosen n (steps_by bytes at n first) (mark_in n matrix) (line_by p q x.0 (step_at bytes (at + 3 * x.1)))

-- the line stands at the place; all other bytes stay, and the length
pub record MovePut (l : Line) (old : List ℕ) (place : ℕ) (new : List ℕ) : Type 0 where
  pub same_length : length new ≡ length old
  pub before : (i : ℕ) → i < place → get_or new i 0 ≡ get_or old i 0
  pub after : (i : ℕ) → place + 5 ≤ i → get_or new i 0 ≡ get_or old i 0
  pub line_is : line_at new place ≡ l
