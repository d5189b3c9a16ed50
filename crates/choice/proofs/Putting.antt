-- Where the line that is put is the chosen one. Assumes nothing.
use Prim.Native.Nat.{ℕ}
use mathlib.Core.Path.{ap, subst⁻¹}
use mathlib.Core.List.{List}
use Rattle.chart.specs.Chart.{Step}
use Rattle.reason.specs.Line.{pair_of}
use Rattle.reason.specs.Own.{Chosen}
use Rattle.choice.specs.Choice.{LinePut}
use Rattle.choice.specs.Search.{line_by, MovePut}

pub line_put : (n : ℕ) (steps : List Step) (mark : ℕ × ℕ → ℕ) (p q side : ℕ) (u : Step) (old : List ℕ) (place : ℕ) (new : List ℕ)
    → MovePut (line_by p q side u) old place new → Chosen n steps mark (line_by p q side u) → LinePut n steps mark p q old place new
line_put n steps mark p q side u old place new m c = record { same_length = m.same_length; before = m.before; after = m.after; pair_is = ap pair_of m.line_is; chosen = subst⁻¹ (Chosen n steps mark) m.line_is c }
