use Rattle.relation.specs.Promise.{byte_at}
use Rattle.text.proofs.Pieces.{added_none}
use Rattle.report.proofs.Laws.{rows_none, row_in, rows_added}
use Rattle.report.proofs.put_rows.Goals as goal

pub loop-p-init : goal.loop-p-init
loop-p-init c = rw (rows_none (byte_at c.args.n c.args.matrix.now) c.args.n) (added_none c.args.page.now)

pub put_row-requires-clause-room : goal.put_row-requires-clause-room
put_row-requires-clause-room c =
    let a = c.args in
    row_in (byte_at a.n a.matrix.now) a.n a.page.now c.loop-p.page c.loop-p.p c.loop-p-test.true c.requires.room c.loop-p.invariant

pub loop-p-preserved : goal.loop-p-preserved
loop-p-preserved c =
    let a = c.args in
    rows_added (byte_at a.n a.matrix.now) a.n a.page.now c.loop-p.page c.loop-p.p c.loop-p-test.true c.requires.room c.loop-p.invariant c.put_row.new.page c.put_row.ensures
