use borrow.Author.Rules.{rules}
use native.Mathlib.Omega.{arith}
use mathlib.Core.Path.{◌≡◌, ◌∙◌}
use Prim.Native.Nat.{ℕ}
use lib.ListN.{get_or}
use Rattle.words.proofs.Lowest.{lowest_below}
use Rattle.steps.proofs.Walked.{bits_done, bits_walked}
use Rattle.classes.specs.Marking.{is_new, shares_row}
use Rattle.classes.proofs.Putting.{new_shared, shared_first, marking_first, marking_walked, marking_done}
use Rattle.classes.proofs.marking.put_marks.Goals as goal

pub loop-p-init : goal.loop-p-init
loop-p-init c =
    let a = c.args in
    let e : c.into_iter-p-iterator.result.left ≡ a.shared = search rules in
    rw e (tt, tt, c.requires.n_bound.2, marking_first a.n a.near.now a.next.now a.mark a.shared _ c.requires.within.1 c.requires.by_index, new_shared a.n a.near.now a.next.now a.shared c.requires.by_index, shared_first a.next.now a.shared)

pub put_row-requires-clause-n_bound : goal.put_row-requires-clause-n_bound
put_row-requires-clause-n_bound c =
    let inv = c.loop-p.invariant in
    (c.requires.n_bound.0, lowest_below c.in-Some.ensures.steps c.args.n inv.2, omega (arith, c.requires.n_bound.1, inv.3.same_length))

pub loop-p-preserved : goal.loop-p-preserved
loop-p-preserved c =
    let a = c.args in
    let l = c.loop-p in
    let inv = l.invariant in
    let low = c.in-Some.ensures.steps in (
      tt,
      tt,
      omega (arith, low.rest_less, inv.2),
      marking_walked a.n a.near.now a.next.now a.mark c.requires.within.0 c.requires.within.1 (lowest_below low a.n inv.2) low inv.3 c.put_row.ensures.put_mark,
      λ s. bits_walked (λ (p : ℕ). is_new a.n (get_or a.near.now p 0) (get_or a.next.now p 0) p) l.left.made _ s low c.put_row.ensures.value ∙ inv.4 s,
      λ s. bits_walked (λ (p : ℕ). shares_row (get_or a.next.now p 0) p) l.left.shared _ s low c.shared_bit.ensures ∙ inv.5 s,
    )

pub returns-clause-by_index_2 : goal.returns-clause-by_index_2
returns-clause-by_index_2 c =
    let a = c.args in
    let l = c.loop-p in
    λ s. bits_done (λ (p : ℕ). is_new a.n (get_or a.near.now p 0) (get_or a.next.now p 0) p) l.left.made c.in-None.ensures.steps.0 s ∙ l.invariant.4 s

pub returns-clause-by_index_3 : goal.returns-clause-by_index_3
returns-clause-by_index_3 c =
    let a = c.args in
    let l = c.loop-p in
    λ s. bits_done (λ (p : ℕ). shares_row (get_or a.next.now p 0) p) l.left.shared c.in-None.ensures.steps.0 s ∙ l.invariant.5 s

pub returns-clause-put_marks : goal.returns-clause-put_marks
returns-clause-put_marks c = let a = c.args in marking_done a.n a.near.now a.next.now a.mark c.in-None.ensures.steps.0 c.loop-p.invariant.3
