use Prim.Native.Nat.{◌-◌}
use native.Mathlib.Omega.{arith}
use Rattle.relation.proofs.Cells.{cells_few}
use Rattle.reasons.proofs.Linked.{linked_one}
use Rattle.reasons.proofs.link.Goals as goal

pub loop-y-preserved : goal.loop-y-preserved
loop-y-preserved c =
    let m = c.args.marked.now in
    let l = c.loop-y in
    let n_few = m.triples.now.ranged.sorted.triples.few in
    linked_one _ _ _ _ l.y c.from-mark.result (omega arith) (omega (arith, cells_few _ n_few)) c.from-mark.ensures (omega (arith, m.marks_below (l.y - 1) (omega arith), n_few)) l.invariant.0 l.invariant.1 l.invariant.2
