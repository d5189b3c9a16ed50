use borrow.Author.Rules.{rules}
use native.Mathlib.Omega.{arith}
use mathlib.Core.Path.{◌≡◌, sym, ap, ◌∙◌}
use mathlib.Core.Bool.{Bool}
use lib.ListN.{length, get_or}
use Rattle.settle.specs.Test.{pick}
use Rattle.words.proofs.Words.{none_member}
use Rattle.steps.proofs.Walked.{bits_done, bits_walked}
use Rattle.falls.specs.Round.{fallen, smaller}
use Rattle.falls.proofs.Walks.{none_yet, noted_more, noted_done}
use Rattle.falls.proofs.round.note.Goals as goal

pub loop-p-init : goal.loop-p-init
loop-p-init c =
    let a = c.args in
    let found = fallen c.all-all.result a.near.now a.next.now in
    let e : c.into_iter-p-iterator.result.left ≡ a.among = search rules in
    rw e (tt, tt, λ p. none_yet p _, λ p. sym (ap (λ (b : Bool). pick b (found p) (get_or a.fell.now.rows p 0)) (none_member p)))

pub loop-p-preserved : goal.loop-p-preserved
loop-p-preserved c =
    let a = c.args in
    let all = c.all-all.result in
    let l = c.loop-p in
    let low = c.in-Some.ensures.steps in
    let one = c.note_row-changed.ensures in
    let size : length l.fell.rows ≡ 64 = search rules in (
      tt,
      tt,
      λ p. bits_walked (smaller all a.near.now a.next.now) l.changed _ p low one.value ∙ l.invariant.2 p,
      λ p. rw (one.value, one.fell_after) (noted_more (fallen all a.near.now a.next.now) a.fell.now.rows l.fell.rows l.changed c.in-Some.p (omega (arith, low.few)) l.invariant.3 p),
    )

pub returns : goal.returns
returns c =
    let a = c.args in
    let l = c.loop-p in
    noted_done _ c.all-all.result _ _ _ _ _ _ (c.all-all.ensures.0 c.requires.0)
    (λ p. bits_done (smaller c.all-all.result a.near.now a.next.now) l.changed c.in-None.ensures.steps.0 p ∙ l.invariant.2 p)
    l.invariant.3
