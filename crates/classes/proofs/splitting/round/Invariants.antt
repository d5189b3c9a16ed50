use mathlib.Core.Path.{◌≡◌}
use Prim.Native.Nat.{ℕ}
use lib.ListN.{get_or}
use Rattle.relation.specs.Rows.{Within}
use Rattle.classes.specs.Splitting.{Sharing, undivided}
use Rattle.classes.proofs.Undivided.{coming}
use Rattle.classes.proofs.splitting.round.Given as goal

-- of the pairs kept so far, those that each class still to come keeps are the answer
abbrev pub invariant-loop-x : goal.invariant-loop-x
invariant-loop-x l =
    goal.iterator-loop-x.can_next l.x-iterator × goal.iterator-loop-x.is_finite l.x-iterator
    × Within l.steps.n l.next × Sharing l.left.shared l.next
    × ((p q : ℕ) → coming (λ x. undivided l.steps.words.now l.steps.n l.steps.m (get_or l.near x 0)) l.next l.x-iterator.left p q ≡ coming (λ x. undivided l.steps.words.now l.steps.n l.steps.m (get_or l.near x 0)) l.near l.left.made p q)
