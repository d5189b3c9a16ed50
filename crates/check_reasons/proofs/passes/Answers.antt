use Rattle.std.proofs.Common.{rules}
use native.Mathlib.Omega.{arith}
use Rattle.check_reasons.specs.Judging.{in_words}
use Rattle.check_reasons.specs.Lines.{line_of}
use Rattle.check_reasons.proofs.Sides.{forth_passes, back_passes}
use Rattle.check_reasons.proofs.passes.Goals as goal

pub returns-in-0 : goal.returns-in-0
returns-in-0 c =
    let l = line_of c.args.line in
    let rows = c.args.rows.now in
    let rests = c.rests.ensures (λ u. in_words rows (l.target, u)) (λ u b e. search rules) in
    forth_passes c.args.triples.now rows l (omega arith) (omega arith) _ _ c.listed.ensures c.if-listed.false (omega arith) (rw (c.from-p.ensures, c.from-q.ensures) at rests)

pub returns-in-1 : goal.returns-in-1
returns-in-1 c =
    let l = line_of c.args.line in
    let rows = c.args.rows.now in
    let rests = c.rests-in-1.ensures (λ u. in_words rows (u, l.target)) (λ u b e. search rules) in
    back_passes c.args.triples.now rows l (omega arith) (omega arith) _ _ c.listed.ensures c.if-listed.false (omega arith) (rw (c.from-p.ensures, c.from-q.ensures) at rests)
