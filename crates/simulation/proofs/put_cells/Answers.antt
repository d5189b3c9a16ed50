use Rattle.simulation.proofs.Cells.{cells_more}
use Rattle.simulation.proofs.put_cells.Goals as goal

pub loop-p-preserved : goal.loop-p-preserved
loop-p-preserved c = cells_more _ c.loop-p.invariant c.put_row.ensures
