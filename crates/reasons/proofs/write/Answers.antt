use native.Mathlib.Omega.{arith}
use Rattle.reasons.proofs.Owed.{reasons_straight}
use Rattle.reasons.proofs.Room.{fits}
use Rattle.reasons.proofs.write.Goals as goal

pub overflow_mul-result : goal.overflow_mul-result
overflow_mul-result c = let t = fits c.args.marked.now _ _ c.put_list.ensures in omega (arith, t)

pub returns : goal.returns
returns c =
    let t = fits c.args.marked.now _ _ c.put_list.ensures in
    let same = c.put_list.auto.list in
    reasons_straight _ _ _ _ _ c.put_list.result (omega (arith, t, c.if-buffer-n.false, same)) same c.args.marked.now.marks_are c.put_list.ensures
