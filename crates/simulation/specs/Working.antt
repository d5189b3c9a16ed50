-- What working the simulation out leaves in a buffer that has room, and how the cells are written.
use Rattle.std.specs.Prelude.{ℕ, ◌+◌, ◌≤◌, ◌<◌, ◌≡◌, List, ◌⊎◌, length, get_or}
use Rattle.settle.specs.Test.{pick}
use Rattle.chart.specs.Chart.{Step}
use Rattle.words.specs.Words.{member}
use Rattle.nearness.specs.Relation.{Simulating}
use Rattle.relation.specs.Cells.{pair_at}
use Rattle.relation.specs.Rows.{in_rows}
use Rattle.relation.specs.Working as Relation
use Rattle.relation.specs.declared.Matrix.{Matrix}

-- the first `count` bits of the row stand from base on, as 1 and 0; all else stays
pub record RowPut (row base count : ℕ) (old new : List ℕ) : Type 0 where
  pub same_length : length new ≡ length old
  pub cells_are : (q : ℕ) → q < count → get_or new (base + q) 0 ≡ pick (member row q) 1 0
  pub elsewhere : (y : ℕ) → (y < base) ⊎ (base + count ≤ y) → get_or new y 0 ≡ get_or old y 0

-- the first `count` cells of the matrix of these rows stand from 0 on; all else stays
pub record CellsPut (n : ℕ) (rows : List ℕ) (count : ℕ) (old new : List ℕ) : Type 0 where
  pub same_length : length new ≡ length old
  pub cells_are : (y : ℕ) → y < count → get_or new y 0 ≡ pick (in_rows rows (pair_at n y).0 (pair_at n y).1) 1 0
  pub after : (y : ℕ) → count ≤ y → get_or new y 0 ≡ get_or old y 0

-- 1 where the pair is in the relation of that round, else 0
abbrev pub Cell : List Step → Relation.Holding
Cell steps k x byte = byte ≡ pick (Simulating steps k x) 1 0

-- that of the last round
abbrev pub Working : List Step → ℕ → List ℕ → List ℕ → Matrix → Type 0
Working steps = Relation.Working (Cell steps) (Simulating steps)
