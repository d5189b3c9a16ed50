-- That a matrix has the marks of all pairs is a proposition. Assumes nothing.
use Prim.Native.Nat.{ℕ, zero, suc}
use mathlib.Core.List.{List}
use Rattle.std.proofs.Props.{props}
use Rattle.chart.specs.Chart.{Step}
use Rattle.nearness.specs.Mark.{Mark}
use Rattle.reason.specs.Own.{MarksAre}

mark_prop : (steps : List Step) (p q d : ℕ) → IsProp (Mark steps p q d)
unfolding Mark
mark_prop steps p q zero = hlevel props
mark_prop steps p q (suc d) = hlevel props

pub marks_prop : (n : ℕ) (steps : List Step) (mark : ℕ × ℕ → ℕ) → IsProp (MarksAre n steps mark)
marks_prop n steps mark = hlevel mark_prop
