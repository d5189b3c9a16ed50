use native.Mathlib.Omega.{arith}
use Rattle.check_reasons.specs.Lines.{line_of}
use Rattle.check_reasons.proofs.Judged.{good_none, line_bad, line_good}
use Rattle.check_reasons.proofs.judge.Goals as goal

pub loop-i-init : goal.loop-i-init
loop-i-init c = good_none _ _ _

pub returns-then-not-passes : goal.returns-then-not-passes
returns-then-not-passes c =
    (c.loop-i.i, c.of_sheet.ensures, line_bad _ _ _ _ c.args.triples.now.ranged.sorted _ _ _ c.loop-i.invariant (line_of c.line_at-line.result) c.line_at-line.ensures c.passes.result c.passes.ensures c.if-not-passes.true (omega arith))

pub loop-i-preserved : goal.loop-i-preserved
loop-i-preserved c =
    rw c.from-p.ensures (line_good _ _ _ _ c.args.triples.now.ranged.sorted _ _ _ c.loop-i.invariant (line_of c.line_at-line.result) c.line_at-line.ensures c.passes.result c.passes.ensures c.if-not-passes.false (omega arith) c.with.result (rw c.from-p.ensures at c.with.ensures))
