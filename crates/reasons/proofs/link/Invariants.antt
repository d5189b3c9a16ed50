-- The cells from y on are linked.
use mathlib.Core.Path.{◌≡◌}
use lib.ListN.{length}
use Rattle.reasons.specs.Marked.{LinkedFrom}
use Rattle.reasons.proofs.link.Given as goal

abbrev pub invariant-loop-y : goal.invariant-loop-y
invariant-loop-y l = (length l.head ≡ 64) × (length l.next ≡ 4096) × LinkedFrom l.marked l.y l.head l.next
