use Rattle.simulation.specs.Working.{RowPut}
use Rattle.simulation.proofs.put_row.Given as goal

abbrev pub invariant-loop-q : goal.invariant-loop-q
invariant-loop-q l = RowPut l.row l.base l.q l.initial.buffer l.buffer
