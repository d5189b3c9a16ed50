use mathlib.Core.Path.{◌∙◌}
use Prim.Native.Nat.{ℕ}
use lib.ListN.{get_or}
use Rattle.classes.specs.Splitting.{undivided}
use Rattle.classes.proofs.Undivided.{keeps_sharing, coming_done, coming_walked}
use Rattle.classes.proofs.splitting.round.Goals as goal

pub loop-x-preserved : goal.loop-x-preserved
loop-x-preserved c =
    let steps = c.args.steps.now in
    let inv = c.loop-x.invariant in
    let kept = c.split_by.ensures in
    (tt, tt, kept.within, keeps_sharing inv.3 kept, λ p q. coming_walked (λ (x : ℕ). undivided steps.words.now steps.n steps.m (get_or c.args.near x 0)) c.in-Some.ensures.steps kept p q ∙ inv.4 p q)

pub returns : goal.returns
returns c =
    let steps = c.args.steps.now in
    let inv = c.loop-x.invariant in
    record { within = inv.2; kept = λ p q. coming_done (λ (x : ℕ). undivided steps.words.now steps.n steps.m (get_or c.args.near x 0)) c.loop-x.next c.in-None.ensures.steps.0 p q ∙ inv.4 p q }
