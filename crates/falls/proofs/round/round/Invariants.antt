use Prim.Native.Nat.{ℕ}
use mathlib.Core.List.{List}
use lib.ListN.{get_or}
use Rattle.relation.specs.Rows.{Within}
use Rattle.falls.specs.Round.{survives, Fallen}
use Rattle.falls.proofs.Striking.{ByMembers}
use Rattle.falls.proofs.round.round.Given as goal

-- whatever the members that are left have struck then is the answer
abbrev pub invariant-loop-x : goal.invariant-loop-x
invariant-loop-x l =
    goal.iterator-loop-x.can_next l.x-iterator × goal.iterator-loop-x.is_finite l.x-iterator
    × Within l.tables.into.n l.next × Fallen l.tables.into.n l.fell.rows l.x-iterator.left
    × ((r : List ℕ) → ByMembers l.tables.into.n (λ x. survives l.tables.into.words.now l.tables.out.now l.tables.into.n l.tables.into.m x (get_or l.near x 0) (get_or l.fell.rows x 0)) l.x-iterator.left l.next r
    → ByMembers l.tables.into.n (λ x. survives l.tables.into.words.now l.tables.out.now l.tables.into.n l.tables.into.m x (get_or l.near x 0) (get_or l.fell.rows x 0)) l.was l.near r)
