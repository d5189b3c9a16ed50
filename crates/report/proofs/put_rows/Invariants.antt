-- The loop's invariant: the lines of the first p states stand on the page.
use Rattle.relation.specs.Promise.{byte_at}
use Rattle.text.specs.Text.{Added}
use Rattle.report.specs.Text.{rows_text}
use Rattle.report.proofs.put_rows.Given as goal

abbrev pub invariant-loop-p : goal.invariant-loop-p
invariant-loop-p l = Added l.initial.page (rows_text (byte_at l.n l.matrix) l.n l.p) l.page
