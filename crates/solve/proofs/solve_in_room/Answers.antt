use mathlib.Core.Path.{subst}
use Rattle.solve.specs.Solving.{application, Solves}
use Rattle.solve.proofs.Solving.{same_end}
use Rattle.solve.proofs.solve_in_room.Goals as goal

pub returns : goal.returns
returns c =
    let a = c.args in
    let q = a.chart.now in
    subst (λ first. Solves q.shape.n (application q.bytes.now q.shape a.sheet.now a.nodes) first c.solve_kind.result) (same_end a.kind) (rw c.kind_of.ensures at c.solve_kind.ensures)
