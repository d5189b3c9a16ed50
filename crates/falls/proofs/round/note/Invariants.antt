use Prim.Native.Nat.{ℕ}
use mathlib.Core.Path.{◌≡◌}
use lib.ListN.{get_or}
use Rattle.settle.specs.Test.{pick, both, either}
use Rattle.words.specs.Words.{member}
use Rattle.falls.specs.Round.{fallen, smaller}
use Rattle.falls.proofs.round.note.Given as goal

-- the states that are found or still to come are the answer; what fell is noted for those that are found
abbrev pub invariant-loop-p : goal.invariant-loop-p
invariant-loop-p l =
    goal.iterator-loop-p.can_next l.p-iterator × goal.iterator-loop-p.is_finite l.p-iterator
    × ((p : ℕ) → either (member l.changed p) (both (member l.p-iterator.left p) (smaller l.all l.near l.next p)) ≡ both (member l.among p) (smaller l.all l.near l.next p))
    × ((p : ℕ) → get_or l.fell.rows p 0 ≡ pick (member l.changed p) (fallen l.all l.near l.next p) (get_or l.initial.fell.rows p 0))
