-- A list of reasons (document 02, T-03): its lines, their five bytes, and what a line relies on. Throughout, the lines of a list stand with the last
-- line first, so that what follows a line are the earlier ones.
use Rattle.std.specs.Prelude.{ℕ, zero, suc, ◌*◌, ◌+◌, get_or}
use mathlib.Core.List.{List, [], ◌∷◌, ◌++◌, map, Memᴰ as Mem}
use Rattle.settle.specs.Test.{pick}
use Rattle.chart.specs.Chart.{Step}
use Rattle.sheet.specs.Meaning.{leaves}

-- p and q are not equal: on side 0, p steps by the action, which is told by its index, to the target; on side 1, q does
pub record Line : Type 0 where
  pub p : ℕ
  pub q : ℕ
  pub side : ℕ
  pub action : ℕ
  pub target : ℕ

abbrev pub pair_of : Line → ℕ × ℕ
pair_of l = (l.p, l.q)

-- ---- bytes

abbrev pub line_bytes : Line → List ℕ
line_bytes l = l.p ∷ l.q ∷ l.side ∷ l.action ∷ l.target ∷ []

-- the bytes of a list, whose last line stands last in them
unfoldable pub list_bytes : List Line → List ℕ
list_bytes [] = []
list_bytes (l ∷ earlier) = list_bytes earlier ++ line_bytes l

-- the most bytes that a list has which is good: five for each of 64 * 63 pairs
abbrev pub longest_list : ℕ
longest_list = 20160

abbrev pub line_at : List ℕ → ℕ → Line
line_at s at = record { p = get_or s at 0; q = get_or s (at + 1) 0; side = get_or s (at + 2) 0; action = get_or s (at + 3) 0; target = get_or s (at + 4) 0 }

-- the first k lines of the bytes
unfoldable pub lines_in : List ℕ → ℕ → List Line
lines_in s zero = []
lines_in s (suc k) = line_at s (5 * k) ∷ lines_in s k

-- ---- what a line says

-- the line's step is one of the chart's: p's on side 0, q's on side 1; there is no other side
abbrev pub MovesBy : List Step → ℕ → Line → Type 0
MovesBy steps zero l = Mem (record { source = l.p; action = l.action; target = l.target }) steps
MovesBy steps (suc zero) l = Mem (record { source = l.q; action = l.action; target = l.target }) steps
MovesBy steps (suc (suc side)) l = ⊥

abbrev pub IsMove : List Step → Line → Type 0
IsMove steps l = MovesBy steps l.side l

-- the states that s reaches by the action
unfoldable pub answers : List Step → ℕ → ℕ → List ℕ
answers [] s action = []
answers (t ∷ rest) s action = pick (leaves s action t) (t.target ∷ answers rest s action) (answers rest s action)

-- the pairs that a line relies on: the target with each answering state of q, or each answering state of p with the target, p's side first
abbrev pub relies_by : List Step → ℕ → Line → List (ℕ × ℕ)
relies_by steps zero l = map (λ u. (l.target, u)) (answers steps l.q l.action)
relies_by steps (suc zero) l = map (λ u. (u, l.target)) (answers steps l.p l.action)
relies_by steps (suc (suc side)) l = []

abbrev pub relies : List Step → Line → List (ℕ × ℕ)
relies steps l = relies_by steps l.side l
