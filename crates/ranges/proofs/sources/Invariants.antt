use mathlib.Core.Path.{◌≡◌}
use lib.ListN.{length}
use Rattle.ranges.specs.Sources.{Sources}
use Rattle.ranges.proofs.sources.Given as goal

abbrev pub invariant-loop-s : goal.invariant-loop-s
invariant-loop-s l = (length l.first ≡ 65) × Sources l.bytes l.at l.t l.s l.first
