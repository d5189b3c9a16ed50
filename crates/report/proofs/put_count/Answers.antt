use Rattle.report.proofs.Laws.{count_added}
use Rattle.report.proofs.put_count.Goals as goal

pub returns : goal.returns
returns c = count_added c.args.page.now _ _ _ c.args.word.now c.args.x c.requires c.put_bytes.ensures c.put_number.ensures c.put_bytes-2.ensures
