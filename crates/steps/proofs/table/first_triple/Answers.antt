use native.Mathlib.Omega.{arith}
use Rattle.chart.proofs.Accepted.{accepted}
use Rattle.steps.proofs.table.first_triple.Goals as goal

pub overflow_add-result : goal.overflow_add-result
overflow_add-result c = omega (arith, accepted _ _ c.args.chart.now.read)

pub overflow_add-result-2 : goal.overflow_add-result-2
overflow_add-result-2 c = omega (arith, accepted _ _ c.args.chart.now.read)

pub returns-clause-end : goal.returns-clause-end
returns-clause-end c = (accepted _ _ c.args.chart.now.read).whole
