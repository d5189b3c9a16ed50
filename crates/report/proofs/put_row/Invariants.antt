-- The loop's invariant: the lines of p with the states above it, up to q, stand on the page.
use Prim.Native.Nat.{◌+◌, ◌-◌}
use Rattle.relation.specs.Promise.{byte_at}
use Rattle.text.specs.Text.{Added}
use Rattle.report.specs.Text.{row_text}
use Rattle.report.proofs.put_row.Given as goal

abbrev pub invariant-loop-q : goal.invariant-loop-q
invariant-loop-q l = Added l.initial.page (row_text (byte_at l.n l.matrix) l.p (l.q - (l.p + 1))) l.page
