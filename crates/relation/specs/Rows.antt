-- A relation on the states of a chart, one word a row: bit q of word p is set where the pair (p, q) is in it.
use Rattle.std.specs.Prelude.{ℕ, ◌^◌, ◌≤◌, ◌<◌, ◌≡◌, Bool, List, get_or}
use Rattle.std.specs.Int.Bits.{bit_and}
use Rattle.settle.specs.Test.{pick, both}
use Rattle.words.specs.Words.{member}
use Rattle.nearness.specs.Relation.{Relation}

-- whether bit q of word p is set
abbrev pub in_rows : List ℕ → ℕ → ℕ → Bool
in_rows rows p = member (get_or rows p 0)

-- rows and bits from n on are 0
pub record Within (n : ℕ) (rows : List ℕ) : Type 0 where
  pub no_row_above : (p : ℕ) → n ≤ p → get_or rows p 0 ≡ 0
  pub no_bit_above : (p : ℕ) → get_or rows p 0 < 2 ^ n

-- the rows of n states hold R
pub record Holds (n : ℕ) (R : Relation) (rows : List ℕ) : Type 0 where
  pub within : Within n rows
  pub bits : (p q : ℕ) → p < n → q < n → in_rows rows p q ≡ R (p, q)

-- of the pairs in the old rows the new ones have those that K keeps
pub record Keeps (n : ℕ) (K : ℕ → ℕ → Bool) (old new : List ℕ) : Type 0 where
  pub within : Within n new
  pub kept : (p q : ℕ) → in_rows new p q ≡ both (in_rows old p q) (K p q)

-- a row that is struck keeps only what is in `kept`
abbrev pub struck : Bool → ℕ → ℕ → ℕ
struck hit row kept = pick hit (bit_and row kept) row
