use Prim.Native.Nat.{ℕ, ◌+◌, ◌<◌}
use mathlib.Core.Path.{◌≡◌}
use mathlib.Core.Bool.{So}
use lib.ListN.{length, get_or}
use Rattle.settle.specs.Test.{both, either}
use Rattle.words.specs.Words.{member}
use Rattle.falls.specs.Round.{apart}
use Rattle.falls.proofs.round.lost.Given as goal

-- what is found lost or still to come is the answer
abbrev pub invariant-loop-q : goal.invariant-loop-q
invariant-loop-q l =
    goal.iterator-loop-q.can_next l.q-iterator × goal.iterator-loop-q.is_finite l.q-iterator
    × ((q : ℕ) → So (member l.q-iterator.left q) → l.base + q < length l.out)
    × ((q : ℕ) → either (member l.gone q) (both (member l.q-iterator.left q) (apart (get_or l.out (l.base + q) 0) l.row)) ≡ both (member l.candidates q) (apart (get_or l.out (l.base + q) 0) l.row))
