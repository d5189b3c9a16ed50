use native.Mathlib.Omega.{arith}
use Prim.Native.Nat.{◌+◌, ◌*◌}
use mathlib.Core.Path.{◌≡◌, sym, ap, ◌∙◌}
use mathlib.Core.Bool.{false≢true}
use mathlib.Core.List.{[], ◌∷◌}
use lib.ListN.{length, length-append}
use Rattle.settle.proofs.Test.{neg_i, neg_e}
use Rattle.beside.proofs.Chosen.{chosen_more, chosen_skip}
use Rattle.compare.specs.Found.{some_zero}
use Rattle.compare.proofs.Found.{partnerless_start}
use Rattle.compare.proofs.partnerless.Goals as goal
use Rattle.compare.proofs.partnerless.Goals.{then-not-some_zero, else-not-some_zero}

pub loop-p-init : goal.loop-p-init
loop-p-init c = (omega (arith, ap length c.new-alone.ensures), partnerless_start _ _ c.new-alone.ensures)

pub loop-p-preserved : goal.loop-p-preserved
loop-p-preserved c =
    let a = c.args in
    let l = c.loop-p in
    let found : c.some_zero.result ≡ some_zero a.matrix.now ((a.low + l.p) * a.n + a.other) a.count = c.some_zero.ensures in
    elim c.if-not-some_zero.branch [
      | then-not-some_zero w ↦ rw (w.alone-is, w.push.ensures.items) (omega (arith, length-append l.alone.items (l.p ∷ [])), rw (l.invariant.1, chosen_more _ l.p (neg_i _ (λ t. false≢true (sym w.if-not-some_zero.true ∙ found ∙ t)))))
      | else-not-some_zero w ↦ rw w.alone-is (omega (arith, l.invariant.0), rw (chosen_skip _ l.p (λ t. neg_e _ t (sym found ∙ w.if-not-some_zero.false))) l.invariant.1)
    ]
