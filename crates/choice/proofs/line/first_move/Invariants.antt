-- No step before number i has all its pairs smaller.
use Prim.Native.Nat.{ℕ, ◌+◌, ◌≤◌, ◌<◌}
use mathlib.Core.Path.{◌≡◌}
use mathlib.Core.Bool.{false}
use lib.ListN.{get_or}
use Rattle.ranges.specs.Sources.{action_at, target_at}
use Rattle.choice.specs.Search.{SmallerAll}
use Rattle.choice.proofs.line.first_move.Given as goal

abbrev pub invariant-loop-i : goal.invariant-loop-i
invariant-loop-i g l =
    (cell : ℕ → ℕ → ℕ) → ((x y r : ℕ) → goal.F-post g l.mark_of x y r → r ≡ cell x y) → (k : ℕ) → get_or l.triples.first l.s 0 ≤ k → k < l.i
    → SmallerAll l.triples.bytes.now l.triples.at (get_or l.triples.first l.o 0) (get_or l.triples.first (l.o + 1) 0) (action_at l.triples.bytes.now l.triples.at k) (cell (target_at l.triples.bytes.now l.triples.at k)) l.mark false
