use native.Mathlib.Omega.{arith}
use Prim.Native.Nat.{◌<◌}
use mathlib.Core.Path.{◌≡◌, ◌∙◌}
use lib.ListN.{length, take}
use Rattle.std.proofs.lemmas.List.{get_or-take, length-take-le}
use Rattle.equal.proofs.Counting.{count_none, count_next, count_all}
use Rattle.equal.proofs.count_pairs.Goals as goal

pub loop-row-init : goal.loop-row-init
loop-row-init c = (omega arith, count_none c.args.n c.args.rows.now)

pub loop-row-preserved : goal.loop-row-preserved
loop-row-preserved c =
    let a = c.args in
    let l = c.loop-row in
    let all = length-take-le a.n a.rows.now (omega (arith, c.told-rows, c.requires.0)) in
    let here = get_or-take a.n a.rows.now l.row-index 0 (omega (arith, all, c.loop-row-test.true)) in
    let next = count_next a.n a.rows.now l.row-index c.size.result c.requires.0 c.requires.1 (rw here at c.size.ensures) in
    (omega (arith, l.invariant.0, next.0), omega (arith, l.invariant.1, next.1))

pub returns : goal.returns
returns c =
    let a = c.args in
    let all = length-take-le a.n a.rows.now (omega (arith, c.told-rows, c.requires.0)) in
    let end : c.loop-row.row-index ≡ a.n = omega (arith, all, c.loop-row-test.false) in
    c.loop-row.invariant.1 ∙ rw end (count_all a.n a.rows.now)
