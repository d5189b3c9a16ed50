use Rattle.relation.specs.Promise.{byte_at}
use Rattle.report.proofs.Laws.{states_room, rounds_room, lines_room, chart_added}
use Rattle.report.proofs.put_chart.Goals as goal

pub put_count-requires : goal.put_count-requires
put_count-requires c = states_room c.args.n c.args.rounds (byte_at c.args.n c.args.matrix.now) c.args.page.now c.requires.room

pub put_count-requires-2 : goal.put_count-requires-2
put_count-requires-2 c = rounds_room c.args.n c.args.rounds (byte_at c.args.n c.args.matrix.now) c.args.page.now c.requires.room c.put_count.new.page c.put_count.ensures

pub put_rows-requires-clause-room : goal.put_rows-requires-clause-room
put_rows-requires-clause-room c = lines_room c.args.n c.args.rounds (byte_at c.args.n c.args.matrix.now) c.args.page.now c.requires.room c.put_count.new.page c.put_count.ensures c.put_count-2.new.page c.put_count-2.ensures

pub returns : goal.returns
returns c = chart_added c.args.n c.args.rounds (byte_at c.args.n c.args.matrix.now) c.args.page.now c.requires.room c.put_count.new.page c.put_count.ensures c.put_count-2.new.page c.put_count-2.ensures c.put_rows.new.page c.put_rows.ensures
