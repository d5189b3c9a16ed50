-- Which lists are good, for a chart of n states with these steps: chosen and ordered in any way.
use Rattle.std.specs.Prelude.{ℕ, ◌<◌, ◌≡◌}
use mathlib.Core.List.{List, [], ◌∷◌, Memᴰ as Mem}
use Rattle.chart.specs.Chart.{Step}
use Rattle.reason.specs.Line.{Line, pair_of, IsMove, relies}

-- the pair is that of one of the lines
abbrev pub Listed : List Line → ℕ × ℕ → Type 0
Listed lines x = (l : Line) × Mem l lines × (pair_of l ≡ x)

-- a line that comes after the earlier ones is a move of side 0 or 1, in range; it relies only on pairs of earlier lines; its own is none of theirs
pub record GoodLine (n : ℕ) (steps : List Step) (earlier : List Line) (l : Line) : Type 0 where
  pub p_in : l.p < n
  pub q_in : l.q < n
  pub moves : IsMove steps l
  pub rests : (x : ℕ × ℕ) → Mem x (relies steps l) → Listed earlier x
  pub new : Listed earlier (pair_of l) → ⊥

-- every line is good after the earlier ones
unfoldable pub Good : ℕ → List Step → List Line → Type 0
Good n steps [] = Unit {0}
Good n steps (l ∷ earlier) = Good n steps earlier × GoodLine n steps earlier l
