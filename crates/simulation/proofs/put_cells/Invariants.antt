use Prim.Native.Nat.{◌*◌}
use Rattle.simulation.specs.Working.{CellsPut}
use Rattle.simulation.proofs.put_cells.Given as goal

abbrev pub invariant-loop-p : goal.invariant-loop-p
invariant-loop-p l = CellsPut l.n l.rows (l.p * l.n) l.initial.buffer l.buffer
