-- The list is begun up to the cell y, which bears the mark, or is none.
use Prim.Native.Nat.{◌-◌, ◌*◌, ◌≤◌, ◌<◌}
use mathlib.Core.Path.{◌≡◌}
use lib.ListN.{length, get_or}
use Rattle.reason.specs.Line.{lines_in}
use Rattle.reasons.specs.Begun.{KeptFrom}
use Rattle.reasons.specs.Marked.{cells, BegunBy}
use Rattle.reasons.proofs.put_mark.Given as goal

abbrev pub invariant-loop-y : goal.invariant-loop-y
invariant-loop-y l =
    (length l.initial.list ≡ length l.list) × (l.y < cells l.marked → get_or l.marked.matrix.now l.y 0 ≡ l.mark) × (l.k ≤ l.lines) × KeptFrom (5 * l.lines) l.initial.list l.list × BegunBy l.marked l.mark l.y (lines_in l.list l.lines)

abbrev pub decreases-loop-y : goal.decreases-loop-y
decreases-loop-y l = cells l.marked - l.y
