use Prim.Native.Nat.{ℕ}
use mathlib.Core.Path.{◌≡◌}
use lib.ListN.{get_or}
use Rattle.words.specs.Words.{member}
use Rattle.relation.specs.Rows.{struck}
use Rattle.relation.proofs.rows.strike.Given as goal

-- what is struck or still to come is the answer
abbrev pub invariant-loop-p : goal.invariant-loop-p
invariant-loop-p l =
    goal.iterator-loop-p.can_next l.p-iterator × goal.iterator-loop-p.is_finite l.p-iterator
    × ((p : ℕ) → struck (member l.p-iterator.left p) (get_or l.rows p 0) l.kept ≡ struck (member l.set p) (get_or l.initial.rows p 0) l.kept)
