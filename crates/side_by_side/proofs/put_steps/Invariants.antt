-- The loop's invariant: the first i triples stand on the page.
use Rattle.text.specs.Text.{Added}
use Rattle.side_by_side.proofs.Written.{front}
use Rattle.side_by_side.proofs.put_steps.Given as goal

abbrev pub invariant-loop-i : goal.invariant-loop-i
invariant-loop-i l = Added l.initial.page (front l.chart.bytes.now l.chart.shape l.places l.shift l.i) l.page
