use mathlib.Core.Path.{refl, subst}
use Rattle.marks.specs.Promise.{MarksPromise}
use Rattle.reasons.proofs.Owed.{not_refused, triples_marked}
use Rattle.reasons.proofs.reasons.Goals as goal

pub returns-in_err-marks : goal.returns-in_err-marks
returns-in_err-marks c =
    let chart = c.in_ok-chart.chart in
    absurd (not_refused chart.bytes.now chart.shape chart.read _ _ refl (subst (MarksPromise chart.bytes.now _ _) c.in_err-marks.was c.marks.ensures))

pub invariant_of-write : goal.invariant_of-write
invariant_of-write c =
    let t = c.of-triples.result in
    let p = subst (MarksPromise c.in_ok-chart.chart.bytes.now _ _) c.in_ok-marks.was c.marks.ensures in
    let w = triples_marked t c.of-triples.ensures.3 c.of-triples.ensures.0 refl p in
    record { room = w.0; marks_are = w.1; marks_below = w.2 }
