use Prim.Native.Nat.{◌-◌}
use Rattle.chart.specs.Reading.{chart_in}
use Rattle.falls.proofs.Rounding.{Rounding}
use Rattle.falls.proofs.settle.Given as goal

abbrev pub invariant-loop-fell : goal.invariant-loop-fell
invariant-loop-fell l = Rounding l.chart.shape.n (chart_in l.chart.bytes.now l.chart.shape).steps l.rows l.fell.rows l.fell.changed l.rounds

abbrev pub decreases-loop-fell : goal.decreases-loop-fell
decreases-loop-fell l = 4096 - l.rounds
