use mathlib.Core.Path.{refl}
use Rattle.ranges.proofs.Counting.{sources_none}
use Rattle.ranges.proofs.sources.Goals as goal

pub loop-s-init : goal.loop-s-init
loop-s-init c = (refl, sources_none _ _ _ 65)
