use Rattle.std.proofs.Common.{◌≤◌}
use Rattle.questions.proofs.show_cells.Given as goal

-- no more cells stand in the line than were gone over
abbrev pub invariant-loop-cell : goal.invariant-loop-cell
invariant-loop-cell g l = l.column ≤ l.cell-index
