use native.Mathlib.Omega.{arith}
use mathlib.Core.Path.{◌∙◌}
use Prim.Native.Nat.{◌+◌}
use lib.ListN.{length-set}
use Rattle.words.proofs.Lowest.{rest_in}
use Rattle.classes.proofs.Putting.{marked_done, marked_walked}
use Rattle.classes.proofs.marking.put_mark.Goals as goal

pub loop-q-preserved : goal.loop-q-preserved
loop-q-preserved c =
    let a = c.args in
    let l = c.loop-q in
    let inv = l.invariant in
    let low = c.in-Some.ensures.steps in (
      tt,
      tt,
      λ q m. omega (arith, length-set l.buffer (a.start + c.in-Some.q) a.mark, inv.2 q (rest_in low q m)),
      λ y. marked_walked l.buffer a.start a.mark y low (inv.2 _ low.in_set) ∙ inv.3 y,
    )

pub returns : goal.returns
returns c =
    let a = c.args in
    let l = c.loop-q in
    record { same_length = l.auto.buffer; cells = λ y. marked_done a.start a.mark l.buffer c.in-None.ensures.steps.0 y ∙ l.invariant.3 y }
