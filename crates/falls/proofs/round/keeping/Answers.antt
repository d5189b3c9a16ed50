use borrow.Author.Rules.{rules}
use native.Mathlib.Omega.{arith}
use Prim.Native.Nat.{◌*◌}
use Rattle.steps.proofs.Stepping.{row_there}
use Rattle.falls.proofs.Striking.{keeping_left, lost_small, keeping_fell}
use Rattle.falls.proofs.round.keeping.Goals as goal

pub returns-then-change : goal.returns-then-change
returns-then-change c =
    let into = c.args.tables.now.into in
    rw c.if-change.true (keeping_left into.n (c.args.row * into.n) into.words.now c.args.tables.now.out.now c.args.change.now.left c.args.change.now.gone _ c.sources.ensures.states c.sources.ensures.members)

-- whichever table the words are of
pub lost-requires : goal.lost-requires
lost-requires c = row_there (search rules) c.args.row _ c.requires.row_there c.sources-2.ensures.states

pub overflow_sub-result : goal.overflow_sub-result
overflow_sub-result c =
    let into = c.args.tables.now.into in
    omega (arith, c.all.ensures.0 into.few, lost_small into.few (c.args.row * into.n) into.words.now c.args.tables.now.out.now c.args.change.now.left c.args.change.now.gone _ _ c.sources-2.ensures.states c.sources-2.ensures.members c.lost.ensures (search rules))

pub returns : goal.returns
returns c =
    let into = c.args.tables.now.into in
    rw (c.if-change.false, c.all.ensures.0 into.few) (keeping_fell into.few (c.args.row * into.n) into.words.now c.args.tables.now.out.now c.args.change.now.left c.args.change.now.gone _ _ c.sources-2.ensures.states c.sources-2.ensures.members c.lost.ensures (search rules))
