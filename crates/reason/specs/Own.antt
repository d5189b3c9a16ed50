-- The list that is written, for a chart of n states with these steps. Laws say that it is good (`own_good`) and that there is no other
-- (`own_determined`).
use Rattle.std.specs.Prelude.{ℕ, ◌<◌, ◌≡◌, ◌⊎◌}
use mathlib.Core.List.{List, Memᴰ as Mem}
use Rattle.chart.specs.Chart.{Step}
use Rattle.chart.specs.Layout.{Rising}
use Rattle.nearness.specs.Mark.{Mark}
use Rattle.reason.specs.Line.{Line, pair_of, IsMove, relies}
use Rattle.reason.specs.Good.{Listed}

-- mark gives each pair's
abbrev pub MarksAre : ℕ → List Step → (ℕ × ℕ → ℕ) → Type 0
MarksAre n steps mark = (p q : ℕ) → p < n → q < n → Mark steps p q (mark (p, q))

-- a move whose paired targets all have smaller nonzero marks: smaller than the mark of its own pair
pub record Qualifies (steps : List Step) (mark : ℕ × ℕ → ℕ) (l : Line) : Type 0 where
  pub moves : IsMove steps l
  pub smaller : (x : ℕ × ℕ) → Mem x (relies steps l) → (0 < mark x) × (mark x < mark (pair_of l))

-- side 0 first, then the least action, then the least target
abbrev pub Sooner : Line → Line → Type 0
Sooner k l = (k.side < l.side) ⊎ ((k.side ≡ l.side) × ((k.action < l.action) ⊎ ((k.action ≡ l.action) × (k.target < l.target))))

-- the line of an unequal pair: of the moves that qualify the first
pub record Chosen (n : ℕ) (steps : List Step) (mark : ℕ × ℕ → ℕ) (l : Line) : Type 0 where
  pub p_in : l.p < n
  pub q_in : l.q < n
  pub unequal : 0 < mark (pair_of l)
  pub qualifies : Qualifies steps mark l
  pub first : (k : Line) → pair_of k ≡ pair_of l → Qualifies steps mark k → (k ≡ l) ⊎ Sooner l k

-- by mark, then p, then q
abbrev pub Before : (ℕ × ℕ → ℕ) → ℕ × ℕ → ℕ × ℕ → Type 0
Before mark x y = (mark x < mark y) ⊎ ((mark x ≡ mark y) × ((x.0 < y.0) ⊎ ((x.0 ≡ y.0) × (x.1 < y.1))))

-- one line for each unequal pair in both orders, rising by mark, then p, then q
pub record OwnList (n : ℕ) (steps : List Step) (mark : ℕ × ℕ → ℕ) (lines : List Line) : Type 0 where
  pub chosen : (l : Line) → Mem l lines → Chosen n steps mark l
  pub every : (p q : ℕ) → p < n → q < n → 0 < mark (p, q) → Listed lines (p, q)
  pub rising : Rising (λ later earlier. Before mark (pair_of earlier) (pair_of later)) lines
