use Rattle.chart.proofs.Accepted.{accepted}
use Rattle.steps.proofs.Stepping.{sized}
use Rattle.steps.proofs.filled.Filled.of.Goals as goal

pub invariant_of-result : goal.invariant_of-result
invariant_of-result c = record { few = (accepted _ _ c.args.chart.now.read).states_few; sized = sized c.fill.ensures }
