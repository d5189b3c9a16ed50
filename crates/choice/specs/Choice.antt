-- The chosen line of one pair at a place of a list, by the marks that a matrix holds.
use Rattle.std.specs.Prelude.{ℕ, ◌+◌, ◌*◌, ◌≤◌, ◌<◌, ◌≡◌, List, length, get_or}
use Rattle.chart.specs.Chart.{Step}
use Rattle.relation.specs.Promise.{byte_at}
use Rattle.reason.specs.Line.{pair_of, line_at}
use Rattle.reason.specs.Own.{Chosen}

-- the marks that a matrix of n states holds
abbrev pub mark_in : ℕ → List ℕ → ℕ × ℕ → ℕ
mark_in n matrix x = byte_at n matrix x.0 x.1

-- every mark is below the number of states
abbrev pub MarksBelow : ℕ → List ℕ → Type 0
MarksBelow n matrix = (y : ℕ) → y < n * n → get_or matrix y 0 < n

-- the line at the place is the chosen one of the pair (p, q); all other bytes stay, and the length
pub record LinePut (n : ℕ) (steps : List Step) (mark : ℕ × ℕ → ℕ) (p q : ℕ) (old : List ℕ) (place : ℕ) (new : List ℕ) : Type 0 where
  pub same_length : length new ≡ length old
  pub before : (i : ℕ) → i < place → get_or new i 0 ≡ get_or old i 0
  pub after : (i : ℕ) → place + 5 ≤ i → get_or new i 0 ≡ get_or old i 0
  pub pair_is : pair_of (line_at new place) ≡ (p, q)
  pub chosen : Chosen n steps mark (line_at new place)
