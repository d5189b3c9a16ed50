-- Each triple before number i that bears the action leads to a state that passes.
use Prim.Native.Nat.{ℕ, ◌≤◌, ◌<◌}
use mathlib.Core.Path.{◌≡◌}
use mathlib.Core.Bool.{true}
use lib.ListN.{get_or}
use Rattle.ranges.specs.Sources.{action_at, target_at}
use Rattle.ranges.proofs.Triples.each_leads.Given as goal

abbrev pub invariant-loop-i : goal.invariant-loop-i
invariant-loop-i g l = (j : ℕ) → get_or l.self.first l.s 0 ≤ j → j < l.i → action_at l.self.bytes.now l.self.at j ≡ l.action → goal.F-post g l.passes (target_at l.self.bytes.now l.self.at j) true
