use native.Mathlib.Omega.{arith}
use Rattle.chart.proofs.Accepted.{accepted}
use Rattle.relation.proofs.Cells.{cells_few}
use Rattle.relation.proofs.Promise.{promise_worked}
use Rattle.simulation.proofs.Cells.{simulated}
use Rattle.simulation.proofs.Promise.{simulation_of}
use Rattle.simulation.proofs.simulation.Goals as goal

pub overflow_mul-n : goal.overflow_mul-n
overflow_mul-n c = omega (arith, cells_few _ (accepted _ _ c.in_ok-chart.chart.read).states_few)

pub put_cells-requires : goal.put_cells-requires
put_cells-requires c = ((accepted _ _ c.in_ok-chart.chart.read).states_few, omega arith)

pub returns : goal.returns
returns c =
    let read = c.in_ok-chart.ensures in
    promise_worked _ _ read.0 _ _ _ (omega arith) (simulated _ (rw read.1 at c.work_out-settled.ensures) c.put_cells.ensures) (λ some targets w. simulation_of _ _ targets w)
