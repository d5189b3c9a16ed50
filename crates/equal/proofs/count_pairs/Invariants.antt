use Prim.Native.Nat.{◌*◌, ◌≤◌}
use mathlib.Core.Path.{◌≡◌}
use Rattle.equal.proofs.Counting.{count_to}
use Rattle.equal.proofs.count_pairs.Given as goal

-- the pairs of the rows before
abbrev pub invariant-loop-row : goal.invariant-loop-row
invariant-loop-row l = (l.sum ≤ 64 * l.row-index) × (l.sum ≡ count_to l.n l.rows l.row-index)
