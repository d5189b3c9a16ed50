use native.Mathlib.Omega.{arith}
use mathlib.Core.Path.{◌≡◌, ◌∙◌}
use Prim.Native.Nat.{◌-◌}
use lib.Bits.{and_le_l}
use Rattle.words.proofs.Words.{shl_one}
use Rattle.classes.specs.Marking.{fallen}
use Rattle.classes.proofs.Putting.{put_none, new_none, new_lowest, new_higher, row_fits}
use Rattle.classes.proofs.marking.put_row.Goals as goal

pub returns-then-fell-eq0-clause-value : goal.returns-then-fell-eq0-clause-value
returns-then-fell-eq0-clause-value c =
    let a = c.args in new_none a.n a.was a.row a.p (rw (← c.all.ensures.0 c.requires.n_bound.0) c.if-fell-eq0.true)

pub returns-then-fell-eq0-clause-put_mark : goal.returns-then-fell-eq0-clause-put_mark
returns-then-fell-eq0-clause-put_mark c =
    let a = c.args in
    let none : fallen a.n a.was a.row ≡ 0 = rw (← c.all.ensures.0 c.requires.n_bound.0) c.if-fell-eq0.true in
    put_none a.mark a.buffer.now none

pub put_mark-requires : goal.put_mark-requires
put_mark-requires c =
    row_fits _ _ _ _ c.requires.n_bound.1 c.requires.n_bound.2 (omega (arith, c.requires.was_bound.0, and_le_l c.args.was (c.all.result - c.args.row)))

pub returns-then-row-p-clause-value : goal.returns-then-row-p-clause-value
returns-then-row-p-clause-value c =
    let a = c.args in
    shl_one a.p (omega (arith, c.requires.n_bound.0, c.requires.n_bound.1)) ∙ new_lowest a.n a.was a.row a.p (rw (← c.all.ensures.0 c.requires.n_bound.0) c.if-fell-eq0.false) c.if-row-p.true

pub returns-clause-value : goal.returns-clause-value
returns-clause-value c = let a = c.args in new_higher a.n a.was a.row a.p c.if-row-p.false
