use Rattle.chart.proofs.Accepted.{accepted}
use Rattle.steps.proofs.table.Triple.read.Goals as goal

pub returns-clause-within : goal.returns-clause-within
returns-clause-within c = (accepted _ _ c.args.chart.now.read).steps_in c.args.i c.requires

pub returns-clause-few : goal.returns-clause-few
returns-clause-few c = (accepted _ _ c.args.chart.now.read).states_few
