use native.Mathlib.Omega.{arith}
use Rattle.side_by_side.proofs.Table.{numbering_none, numbering_more, numbering_skip}
use Rattle.side_by_side.proofs.number.Goals as goal
use Rattle.side_by_side.proofs.number.Goals.{then-flags-code, else-flags-code}

pub loop-code-init : goal.loop-code-init
loop-code-init c = numbering_none c.args.flags.now c.args.places.now c.new-codes.result.items c.new-codes.ensures

pub loop-code-preserved : goal.loop-code-preserved
loop-code-preserved c =
    let l = c.loop-code in
    elim c.if-flags-code.branch [
      | then-flags-code w ↦ rw (w.places-is, w.codes-is, w.push.ensures.items, w.len.ensures.value) (numbering_more c.args.flags.now l.places l.codes.items l.code l.invariant (omega arith) w.if-flags-code.true)
      | else-flags-code w ↦ rw (w.places-is, w.codes-is) (numbering_skip c.args.flags.now l.places l.codes.items l.code l.invariant w.if-flags-code.false)
    ]
