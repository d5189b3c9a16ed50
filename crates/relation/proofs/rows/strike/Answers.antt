use borrow.Author.Rules.{rules}
use mathlib.Core.Path.{◌∙◌}
use Rattle.relation.proofs.Keeping.{struck_walked}
use Rattle.relation.proofs.rows.strike.Goals as goal

pub loop-p-preserved : goal.loop-p-preserved
loop-p-preserved c =
    let l = c.loop-p in
    let inv = l.invariant in
    (tt, tt, λ p. struck_walked l.rows c.args.kept p c.in-Some.ensures.steps (search rules) ∙ inv.2 p)
