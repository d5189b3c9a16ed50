-- The formula that a list's lines spell for a pair.
use Rattle.std.specs.Prelude.{ℕ, zero, suc, Bool, List, [], ◌∷◌, map, eqb}
use Rattle.settle.specs.Test.{pick, both}
use Rattle.chart.specs.Chart.{Step}
use Rattle.sheet.specs.Formula.{only, Formula, top, bottom, and, or, diamond, box}
use Rattle.reason.specs.Line.{Line, relies}

-- the and of formulas, true where there is none; the or, false where there is none
unfoldable pub all_true : List Formula → Formula
all_true [] = top
all_true (f ∷ []) = f
all_true (f ∷ (g ∷ rest)) = and f (all_true (g ∷ rest))

unfoldable pub some_true : List Formula → Formula
some_true [] = bottom
some_true (f ∷ []) = f
some_true (f ∷ (g ∷ rest)) = or f (some_true (g ∷ rest))

-- what a line spells, where the pairs that it relies on spell fs: on side 0 the diamond by its action over their and, on side 1 the box over their or
-- (a good list has no other side)
abbrev pub spells_by : ℕ → ℕ → List Formula → Formula
spells_by zero action fs = diamond (only action) (all_true fs)
spells_by (suc side) action fs = box (only action) (some_true fs)

-- the pair is the line's
unfoldable pub is_pair : ℕ × ℕ → Line → Bool
is_pair x l = both (eqb l.p x.0) (eqb l.q x.1)

-- what the line of a pair spells; true where there is no line
unfoldable pub spelled : List Step → List Line → ℕ × ℕ → Formula
spelled steps [] x = top
spelled steps (l ∷ earlier) x = pick (is_pair x l) (spells_by l.side l.action (map (spelled steps earlier) (relies steps l))) (spelled steps earlier x)
