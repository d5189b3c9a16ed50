use mathlib.Core.Path.{◌≡◌}
use Prim.Native.Nat.{ℕ, ◌^◌, ◌<◌}
use lib.ListN.{get_or}
use Rattle.settle.specs.Test.{both, either}
use Rattle.words.specs.Words.{member}
use Rattle.classes.specs.Marking.{is_new, shares_row}
use Rattle.classes.proofs.Putting.{Marking}
use Rattle.classes.proofs.marking.put_marks.Given as goal

-- what is found or still to come is the answer
abbrev pub invariant-loop-p : goal.invariant-loop-p
invariant-loop-p l =
    goal.iterator-loop-p.can_next l.p-iterator × goal.iterator-loop-p.is_finite l.p-iterator
    × (l.p-iterator.left < 2 ^ l.n) × Marking l.n l.near l.next l.mark l.p-iterator.left l.initial.buffer l.buffer
    × ((s : ℕ) → either (member l.left.made s) (both (member l.p-iterator.left s) (is_new l.n (get_or l.near s 0) (get_or l.next s 0) s)) ≡ is_new l.n (get_or l.near s 0) (get_or l.next s 0) s)
    × ((s : ℕ) → either (member l.left.shared s) (both (member l.p-iterator.left s) (shares_row (get_or l.next s 0) s)) ≡ both (member l.shared s) (shares_row (get_or l.next s 0) s))
