use Prim.Native.Nat.{ℕ, ◌+◌, ◌<◌}
use mathlib.Core.Path.{◌≡◌}
use mathlib.Core.Bool.{So}
use lib.ListN.{length}
use Rattle.settle.specs.Test.{either}
use Rattle.words.specs.Words.{member}
use Rattle.steps.specs.Walk.{leads}
use Rattle.steps.proofs.walk.gather.Given as goal

-- what is out or still to come is the answer
abbrev pub invariant-loop-u : goal.invariant-loop-u
invariant-loop-u l =
    goal.iterator-loop-u.can_next l.u-iterator × goal.iterator-loop-u.is_finite l.u-iterator
    × ((u : ℕ) → So (member l.u-iterator.left u) → l.base + u < length l.into)
    × ((s : ℕ) → either (member l.out s) (leads l.into l.base l.u-iterator.left s) ≡ either (member l.known s) (leads l.into l.base l.set s))
