-- What comparing two charts tells (document 02, T-01): the mark of the two start states, and the states of each that have no partner in the other.
use Rattle.std.specs.Prelude.{ℕ, ◌+◌, ◌-◌, ◌≤◌, ◌<◌, ◌≡◌, ◌⊎◌, ◌↔◌, length}
use mathlib.Core.List.{List, ◌∷◌, ◌++◌, Memᴰ as Mem}
use Rattle.settle.specs.Finite.{pairs}
use Rattle.settle.specs.Chain.{Rounds}
use Rattle.chart.specs.Chart.{Chart, states, actions}
use Rattle.chart.specs.Layout.{Rising}
use Rattle.sheet.specs.Formula.{Formula}
use Rattle.nearness.specs.Relation.{Near}
use Rattle.nearness.specs.Mark.{Mark, TellsApart, SmallestDepth}
use Rattle.beside.specs.Beside.{beside}
use Rattle.beside.specs.Partner.{Partners, FirstMatched, SecondMatched}

-- states after their count
abbrev pub counted : List ℕ → List ℕ
counted list = length list ∷ list

-- the list: the mark, a count and the first's states, a count and the second's, one byte each
abbrev pub listed : ℕ → List ℕ → List ℕ → List ℕ
listed mark first second = mark ∷ (counted first ++ counted second)

-- the most bytes that a list has: 3, then one for each of 64 states
abbrev pub longest_comparison : ℕ
longest_comparison = 67

-- the numbers below n that are not matched, rising
pub record Alone (n : ℕ) (Matched : ℕ → Type 0) (list : List ℕ) : Type 0 where
  pub rising : Rising ◌<◌ list
  pub exactly : (p : ℕ) → Mem p list ↔ ((p < n) × (Matched p → ⊥))

-- the start states are 0 of each, which are 0 and n side by side, where n are the first's states
pub record Comparison (c d : Chart) (mark : ℕ) (first second : List ℕ) (rounds : ℕ) : Type 0 where
  -- the marks and the rounds are those of the two charts side by side
  pub mark_is : Mark (beside c d).steps 0 (states c) mark
  pub rounds_are : Rounds (pairs (states c + states d)) (Near (beside c d).steps) rounds
  -- every state of the first with no partner in the second, then the reverse
  pub first_alone : Alone (states c) (FirstMatched c d) first
  pub second_alone : Alone (states d) (SecondMatched c d) second
  -- what that means
  pub zero_exactly_if_partners : (mark ≡ 0) ↔ Partners c d 0 0
  pub partners_never_told_apart : mark ≡ 0 → (f : Formula) → TellsApart (actions (beside c d)) (beside c d).steps f 0 (states c) → ⊥
  pub else_smallest_depth : (mark ≡ 0 → ⊥) → SmallestDepth (actions (beside c d)) (beside c d).steps 0 (states c) mark
  pub rounds_greatest : (p q k : ℕ) → p < states c + states d → q < states c + states d → Mark (beside c d).steps p q k → k ≤ rounds
  pub rounds_borne_or_zero : (rounds ≡ 0) ⊎ ((p : ℕ) × (q : ℕ) × (p < states c + states d) × (q < states c + states d) × Mark (beside c d).steps p q rounds)
  pub rounds_few : rounds ≤ states c + states d - 1
