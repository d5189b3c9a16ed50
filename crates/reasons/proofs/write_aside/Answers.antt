use native.Mathlib.Omega.{arith}
use mathlib.Core.Path.{sym}
use lib.Seq.{length-take-le}
use Rattle.reasons.proofs.Owed.{reasons_given}
use Rattle.reasons.proofs.Room.{fits}
use Rattle.reasons.proofs.write_aside.Goals as goal

pub overflow_mul-list : goal.overflow_mul-list
overflow_mul-list c = let t = fits c.args.marked.now _ _ c.put_list-lines.ensures in omega (arith, t)

pub slice_bounds-list-end : goal.slice_bounds-list-end
slice_bounds-list-end c = let t = fits c.args.marked.now _ _ c.put_list-lines.ensures in omega (arith, t, c.put_list-lines.auto.list)

pub slice_bounds-fill-end : goal.slice_bounds-fill-end
slice_bounds-fill-end c = let t = fits c.args.marked.now _ _ c.put_list-lines.ensures in sym (length-take-le _ c.put_list-lines.new.list (omega (arith, t, c.put_list-lines.auto.list)))

pub returns : goal.returns
returns c =
    let t = fits c.args.marked.now _ _ c.put_list-lines.ensures in
    reasons_given _ _ _ c.put_list-lines.new.list c.put_list-lines.result (omega (arith, t, c.put_list-lines.auto.list)) c.args.marked.now.marks_are c.put_list-lines.ensures.own c.fill.ensures
