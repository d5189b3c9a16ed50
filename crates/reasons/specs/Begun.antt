-- How far a list is written.
use Rattle.std.specs.Prelude.{ℕ, ◌+◌, ◌*◌, ◌≤◌, ◌<◌, ◌≡◌, ◌⊎◌, get_or}
use mathlib.Core.List.{List, Memᴰ as Mem}
use Rattle.chart.specs.Chart.{Step}
use Rattle.chart.specs.Layout.{Rising}
use Rattle.reason.specs.Line.{Line, pair_of, lines_in}
use Rattle.reason.specs.Good.{Listed}
use Rattle.reason.specs.Own.{Chosen, Before, OwnList}

-- the own list up to a mark and a cell: the lines of the pairs with a smaller nonzero mark, and of those with this mark whose cell is below y
pub record Begun (n : ℕ) (steps : List Step) (mark : ℕ × ℕ → ℕ) (d y : ℕ) (lines : List Line) : Type 0 where
  pub chosen : (l : Line) → Mem l lines → Chosen n steps mark l
  pub every : (p q : ℕ) → p < n → q < n → 0 < mark (p, q) → (mark (p, q) < d) ⊎ ((mark (p, q) ≡ d) × (p * n + q < y)) → Listed lines (p, q)
  pub so_far : (l : Line) → Mem l lines → (mark (pair_of l) < d) ⊎ ((mark (pair_of l) ≡ d) × (l.p * n + l.q < y))
  pub rising : Rising (λ later earlier. Before mark (pair_of earlier) (pair_of later)) lines

-- the bytes from a place on stay
abbrev pub KeptFrom : ℕ → List ℕ → List ℕ → Type 0
KeptFrom at old new = (i : ℕ) → at ≤ i → get_or new i 0 ≡ get_or old i 0

-- the lines of a mark were put after k lines, and r stand now
pub record MarkPut (n : ℕ) (steps : List Step) (mark : ℕ × ℕ → ℕ) (d : ℕ) (old : List ℕ) (k : ℕ) (new : List ℕ) (r : ℕ) : Type 0 where
  pub onward : k ≤ r
  pub kept : KeptFrom (5 * r) old new
  pub begun : Begun n steps mark (d + 1) 0 (lines_in new r)

-- the own list was put at the start, and has r lines
pub record ListPut (n : ℕ) (steps : List Step) (mark : ℕ × ℕ → ℕ) (old new : List ℕ) (r : ℕ) : Type 0 where
  pub kept : KeptFrom (5 * r) old new
  pub own : OwnList n steps mark (lines_in new r)
