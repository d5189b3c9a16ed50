-- The list is begun up to the mark.
use Prim.Native.Nat.{◌*◌}
use mathlib.Core.Path.{◌≡◌}
use lib.ListN.{length}
use Rattle.reason.specs.Line.{lines_in}
use Rattle.reasons.specs.Begun.{KeptFrom}
use Rattle.reasons.specs.Marked.{BegunBy}
use Rattle.reasons.proofs.put_list.Given as goal

abbrev pub invariant-loop-mark : goal.invariant-loop-mark
invariant-loop-mark l =
    (length l.initial.list ≡ length l.list) × KeptFrom (5 * l.lines) l.initial.list l.list × BegunBy l.marked l.mark 0 (lines_in l.list l.lines)
