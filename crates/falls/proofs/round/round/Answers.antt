use borrow.Author.Rules.{rules}
use native.Mathlib.Omega.{arith}
use Rattle.words.proofs.Lowest.{rest_in}
use Rattle.falls.proofs.Walks.{fallen_small}
use Rattle.falls.proofs.Striking.{members_done, members_more}
use Rattle.falls.proofs.round.round.Goals as goal

pub loop-x-preserved : goal.loop-x-preserved
loop-x-preserved c =
    let inv = c.loop-x.invariant in
    let low = c.in-Some.ensures.steps in
    let keeps = rw (c.of.ensures.0, c.of.ensures.1) at c.strike_into.ensures in
    (tt, tt, keeps.within, λ x i. inv.3 x (rest_in low x i), λ r k. inv.4 r (members_more _ low keeps k))

pub sources-requires : goal.sources-requires
sources-requires c = (omega arith, fallen_small _ c.args.tables.now.into.few (search rules) c.requires.fallen)

pub returns-clause-keeps : goal.returns-clause-keeps
returns-clause-keeps c = c.loop-x.invariant.4 c.loop-x.next (members_done _ c.in-None.ensures.steps.0 c.loop-x.invariant.2)
