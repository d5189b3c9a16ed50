-- The loop's invariant: of the first p states, those that are partnerless are there.
use Prim.Native.Nat.{◌+◌, ◌*◌, ◌≤◌}
use mathlib.Core.Path.{◌≡◌}
use lib.ListN.{length}
use Rattle.settle.specs.Test.{neg}
use Rattle.beside.specs.Chosen.{chosen}
use Rattle.compare.specs.Found.{some_zero}
use Rattle.compare.proofs.partnerless.Given as goal

abbrev pub invariant-loop-p : goal.invariant-loop-p
invariant-loop-p l = (length l.alone.items ≤ l.p) × (l.alone.items ≡ chosen (λ p. neg (some_zero l.matrix ((l.low + p) * l.n + l.other) l.count)) l.p)
