-- What a round that took pairs from the rows leaves in the lent buffer, and what all rounds leave: in each cell the pair's mark.
use Rattle.std.specs.Prelude.{ℕ, ◌-◌, ◌*◌, ◌^◌, ◌≤◌, ◌<◌, ◌≡◌, Bool, List, eqb, leb, length, get_or}
use Rattle.std.specs.Int.Bits.{bit_and}
use Rattle.std.specs.Int.Count.{count_trailing_zeros}
use Rattle.settle.specs.Test.{pick, both, neg}
use Rattle.words.specs.Words.{member}
use Rattle.chart.specs.Chart.{Step}
use Rattle.nearness.specs.Relation.{Near}
use Rattle.nearness.specs.Mark.{Mark}
use Rattle.relation.specs.Rows.{in_rows}
use Rattle.relation.specs.Cells.{pair_at}
use Rattle.relation.specs.Working as Relation

-- the first cells are 0, and all else stays
pub record Cleared (cells : ℕ) (old new : List ℕ) : Type 0 where
  pub same_length : length new ≡ length old
  pub zeros : (y : ℕ) → y < cells → get_or new y 0 ≡ 0
  pub after : (y : ℕ) → cells ≤ y → get_or new y 0 ≡ get_or old y 0

-- what fell from a row of n states
abbrev pub fallen : ℕ → ℕ → ℕ → ℕ
fallen n was row = bit_and was (2 ^ n - 1 - row)

-- the cells of those that fell, in the row whose cells begin at `start`, got the mark; all else stays
pub record PutMark (start fell mark : ℕ) (old new : List ℕ) : Type 0 where
  pub same_length : length new ≡ length old
  pub cells : (y : ℕ) → get_or new y 0 ≡ pick (both (leb start y) (member fell (y - start))) mark (get_or old y 0)

-- something fell from p's row, and p is the lowest of what is left: the lowest state of a class that the round made
unfoldable pub is_new : ℕ → ℕ → ℕ → ℕ → Bool
is_new n was row p = both (neg (eqb (fallen n was row) 0)) (eqb (count_trailing_zeros 64 row) p)

-- p's row has another state
unfoldable pub shares_row : ℕ → ℕ → Bool
shares_row row p = neg (eqb row (2 ^ p))

-- each pair that fell got the mark; all else stays
pub record PutMarks (n : ℕ) (near next : List ℕ) (mark : ℕ) (old new : List ℕ) : Type 0 where
  pub same_length : length new ≡ length old
  pub cells : (y : ℕ) → y < n * n → get_or new y 0 ≡ pick (both (in_rows near (pair_at n y).0 (pair_at n y).1) (neg (in_rows next (pair_at n y).0 (pair_at n y).1))) mark (get_or old y 0)
  pub after : (y : ℕ) → n * n ≤ y → get_or new y 0 ≡ get_or old y 0

-- ---- what all rounds leave

abbrev pub Cell : List Step → Relation.Holding
Cell steps k x = Mark steps x.0 x.1

abbrev pub Worked : List Step → ℕ → List ℕ → List ℕ → ℕ → Type 0
Worked steps n old new rounds = Relation.Rounding (Cell steps) (Near steps) n old new rounds
