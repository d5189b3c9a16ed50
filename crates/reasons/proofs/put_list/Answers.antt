use native.Mathlib.Omega.{arith}
use Prim.Native.Nat.{ℕ, ◌+◌, ◌*◌}
use mathlib.Core.Path.{refl}
use lib.ListN.{get_or-replicate}
use Rattle.relation.proofs.Cells.{cell_in, cells_few}
use Rattle.reason.specs.Line.{lines_in}
use Rattle.reasons.proofs.Linked.{linked_none}
use Rattle.reasons.proofs.Begun.{begun_none, begun_all}
use Rattle.reasons.proofs.put_list.Goals as goal

pub link-requires : goal.link-requires
link-requires c =
    let few = cells_few _ c.args.marked.now.triples.now.ranged.sorted.triples.few in
    linked_none _ _ _ _ (λ mark h. let e = get_or-replicate {A = ℕ} 64 mark 4096 0 h in (omega (arith, few), omega arith))

pub loop-mark-init : goal.loop-mark-init
unfolding lines_in
loop-mark-init c = (refl, λ i h. refl, begun_none _ _ _)

pub returns : goal.returns
returns c =
    let m = c.args.marked.now in
    let n = m.triples.now.shape.n in
    record { kept = c.loop-mark.invariant.1; own = begun_all _ _ _ c.loop-mark.invariant.2 (λ p q h k. omega (arith, m.marks_below (p * n + q) (cell_in n p q h k), c.loop-mark-test.false)) }
