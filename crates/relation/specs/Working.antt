-- What the rounds of a matrix leave in a buffer that has room, at their end, which always comes, so 15 never does. Cell says what a pair's cell holds,
-- C which relations the rounds make.
use Rattle.std.specs.Prelude.{ℕ, ◌*◌, ◌≤◌, ◌<◌, ◌≡◌, List, length, get_or}
use Rattle.settle.specs.Finite.{pairs}
use Rattle.settle.specs.Chain.{Settled}
use Rattle.nearness.specs.Relation.{Relation}
use Rattle.relation.specs.Cells.{pair_at}
use Rattle.relation.specs.declared.Matrix.{Matrix}

-- after how many rounds which pair's cell holds which byte
abbrev pub Holding : Type 1
Holding = ℕ → ℕ × ℕ → ℕ → Type 0

-- k rounds are done, before each of which the relations had not settled; all bytes after the cells stay
pub record Rounding (Cell : Holding) (C : ℕ → Relation) (n : ℕ) (old new : List ℕ) (k : ℕ) : Type 0 where
  pub same_length : length new ≡ length old
  pub after : (y : ℕ) → n * n ≤ y → get_or new y 0 ≡ get_or old y 0
  pub cells : (y : ℕ) → y < n * n → Cell k (pair_at n y) (get_or new y 0)
  pub unsettled : (j : ℕ) → j < k → Settled (pairs n) C j → ⊥

-- and now they have
pub record Working (Cell : Holding) (C : ℕ → Relation) (n : ℕ) (old new : List ℕ) (given : Matrix) : Type 0 where
  pub states_said : given.states ≡ n
  pub done : Rounding Cell C n old new given.rounds
  pub settled : Settled (pairs n) C given.rounds
