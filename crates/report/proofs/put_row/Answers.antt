use native.Mathlib.Omega.{arith}
use Rattle.relation.specs.Promise.{byte_at}
use Rattle.text.proofs.Pieces.{added_none}
use Rattle.report.proofs.Laws.{row_start, pair_room, row_added}
use Rattle.report.proofs.put_row.Goals as goal

pub loop-q-init : goal.loop-q-init
loop-q-init c = rw (row_start (byte_at c.args.n c.args.matrix.now) c.args.p) (added_none c.args.page.now)

pub put_pair-requires : goal.put_pair-requires
put_pair-requires c =
    let a = c.args in
    rw c.from.ensures (pair_room (byte_at a.n a.matrix.now) a.p a.n a.page.now c.loop-q.page c.loop-q.q (omega arith) (omega arith) c.requires.room c.loop-q.invariant)

pub loop-q-preserved : goal.loop-q-preserved
loop-q-preserved c =
    let a = c.args in
    row_added (byte_at a.n a.matrix.now) a.p a.n a.page.now c.loop-q.page c.loop-q.q (omega arith) (omega arith) c.requires.room c.loop-q.invariant c.put_pair.new.page (rw c.from.ensures at c.put_pair.ensures)
