use Prim.Native.Nat.{ℕ, ◌≤◌, ◌<◌}
use Rattle.ranges.specs.Sources.{source_at}
use Rattle.ranges.proofs.past.Given as goal

abbrev pub invariant-loop-i : goal.invariant-loop-i
invariant-loop-i l = (k : ℕ) → l.from ≤ k → k < l.i → source_at l.bytes l.at k < l.s
