use mathlib.Core.Path.{sym, ◌∙◌}
use native.Mathlib.Omega.{arith}
use Rattle.sheet.proofs.Reading.{one_read}
use Rattle.sheet.proofs.+read_formula.Goals as goal

pub returns-then-action_known : goal.returns-then-action_known
returns-then-action_known t c =
    let a = c.args in
    let next = a.next.now in
    let known = c.action_known.ensures.0 c.if-action_known.true in
    c.read_formula-then-action_known.ensures ∙ sym (one_read a.bytes.now a.len a.m next.at next.left c.requires.0 c.requires.1 c.if-next-eq0.false (omega arith) (omega arith) (omega arith) (omega arith) known)
