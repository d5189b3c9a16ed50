use Prim.Native.Nat.{ℕ, ◌+◌, ◌<◌}
use mathlib.Core.Path.{◌≡◌}
use mathlib.Core.Bool.{So}
use lib.ListN.{length}
use Rattle.words.specs.Words.{member}
use Rattle.classes.proofs.Putting.{marked}
use Rattle.classes.proofs.marking.put_mark.Given as goal

-- what is marked or still to come is the answer
abbrev pub invariant-loop-q : goal.invariant-loop-q
invariant-loop-q l =
    goal.iterator-loop-q.can_next l.q-iterator × goal.iterator-loop-q.is_finite l.q-iterator
    × ((q : ℕ) → So (member l.q-iterator.left q) → l.start + q < length l.buffer)
    × ((y : ℕ) → marked l.start l.q-iterator.left l.mark l.buffer y ≡ marked l.start l.fell l.mark l.initial.buffer y)
