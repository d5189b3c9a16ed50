use Prim.Native.Nat.{◌-◌}
use Rattle.chart.specs.Reading.{chart_in}
use Rattle.classes.proofs.Marked.{Going}
use Rattle.classes.proofs.settle.Given as goal

abbrev pub invariant-loop-left : goal.invariant-loop-left
invariant-loop-left l = Going (chart_in l.chart.bytes.now l.chart.shape).steps l.chart.shape.n l.chart.shape.m l.steps.words.now l.initial.buffer l.buffer l.rows l.left.made l.left.shared l.rounds

abbrev pub decreases-loop-left : goal.decreases-loop-left
decreases-loop-left l = 64 - l.rounds
