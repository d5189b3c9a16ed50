use native.Mathlib.Omega.{arith}
use mathlib.Core.Path.{refl, sym, ◌∙◌}
use Rattle.reasons.proofs.Begun.{begun_following, begun_mark, begun_put}
use Rattle.reasons.proofs.Room.{room}
use Rattle.reasons.proofs.put_mark.Goals as goal

pub loop-y-init : goal.loop-y-init
loop-y-init c =
    let f = rw (← c.from-y.ensures) at (c.requires.linked.heads c.args.mark c.requires.mark_nonzero.1) in
    (refl, f.bears, omega arith, λ i h. refl, begun_following _ _ _ c.requires.begun f)

pub overflow_mul-lines : goal.overflow_mul-lines
overflow_mul-lines c = let t = room c.args.marked.now c.loop-y.y c.loop-y.lines c.loop-y.list c.args.mark c.requires.mark_nonzero.0 c.loop-y-test.true (c.loop-y.invariant.1 c.loop-y-test.true) c.loop-y.invariant.4 in omega (arith, t)

pub put_line-requires-clause-room : goal.put_line-requires-clause-room
put_line-requires-clause-room c = let t = room c.args.marked.now c.loop-y.y c.loop-y.lines c.loop-y.list c.args.mark c.requires.mark_nonzero.0 c.loop-y-test.true (c.loop-y.invariant.1 c.loop-y-test.true) c.loop-y.invariant.4 in omega (arith, t, c.loop-y.invariant.0, c.requires.room)

pub overflow_add-lines : goal.overflow_add-lines
overflow_add-lines c = let t = room c.args.marked.now c.loop-y.y c.loop-y.lines c.loop-y.list c.args.mark c.requires.mark_nonzero.0 c.loop-y-test.true (c.loop-y.invariant.1 c.loop-y-test.true) c.loop-y.invariant.4 in omega (arith, t)

pub loop-y-preserved : goal.loop-y-preserved
loop-y-preserved c =
    let l = c.loop-y in
    let f = rw (← c.from-y-in-loop-y.ensures) at (c.requires.linked.nexts l.y (omega arith) c.loop-y-test.true) in
    let bears = l.invariant.1 c.loop-y-test.true in (
      l.invariant.0 ∙ sym c.put_line.ensures.same_length,
      λ h. f.bears h ∙ bears,
      omega (arith, l.invariant.2),
      λ i h. c.put_line.ensures.after i (omega arith) ∙ l.invariant.3 i (omega arith),
      begun_put _ _ _ l.lines l.list l.invariant.4 c.loop-y-test.true bears c.put_line.ensures f,
    )

pub returns : goal.returns
returns c =
    let w = c.loop-y.invariant in
    record { onward = w.2; kept = w.3; begun = begun_mark _ _ _ w.4 (omega (arith, c.loop-y-test.false)) }
