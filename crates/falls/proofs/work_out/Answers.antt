use native.Mathlib.Omega.{arith}
use Rattle.chart.proofs.Accepted.{accepted}
use Rattle.steps.proofs.Filling.{table_few}
use Rattle.falls.proofs.work_out.Goals as goal

pub overflow_add-chart : goal.overflow_add-chart
overflow_add-chart c = omega (arith, accepted _ _ c.args.chart.now.read)

pub overflow_mul-chart : goal.overflow_mul-chart
overflow_mul-chart c = omega (arith, table_few _ _ c.args.chart.now.read)

pub settle_in-requires-in_default : goal.settle_in-requires-in_default
settle_in-requires-in_default c = (table_few _ _ c.args.chart.now.read, omega arith)
