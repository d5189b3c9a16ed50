use Rattle.chart.proofs.Accepted.{accepted}
use Rattle.relation.proofs.Cells.{cells_few}
use Rattle.equal.proofs.Promise.{settled_equal}
use Rattle.equal.proofs.equal_words.Goals as goal

pub work_out-requires : goal.work_out-requires
work_out-requires c = record { n_in_bounds = cells_few _ (accepted _ _ c.args.chart.now.read).states_few }

pub returns : goal.returns
returns c = settled_equal _ _ c.args.chart.now.read _ c.work_out.ensures.settles
