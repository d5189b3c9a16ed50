-- The cells of a matrix linked by their marks.
use Rattle.std.specs.Prelude.{ℕ, ◌+◌, ◌≤◌, ◌<◌, ◌≡◌, List, get_or}

-- r is the first cell from `from` on that bears the mark; where there is none of the cells, r is none of them, and at most 4,096
pub record Following (matrix : List ℕ) (cells mark from r : ℕ) : Type 0 where
  pub onward : from ≤ r
  pub within : r ≤ 4096
  pub bears : r < cells → get_or matrix r 0 ≡ mark
  pub passed : (y : ℕ) → from ≤ y → y < cells → y < r → get_or matrix y 0 ≡ mark → ⊥

-- of the cells from `low` on: the first that bears each mark, and after each the next that bears the same
pub record Linked (matrix : List ℕ) (cells low : ℕ) (head next : List ℕ) : Type 0 where
  pub heads : (mark : ℕ) → mark < 64 → Following matrix cells mark low (get_or head mark 0)
  pub nexts : (y : ℕ) → low ≤ y → y < cells → Following matrix cells (get_or matrix y 0) (y + 1) (get_or next y 0)
