use borrow.Author.Rules.{rules}
use mathlib.Core.Path.{◌≡◌}
use native.Mathlib.Omega.{arith}
use Rattle.chart.proofs.Accepted.{accepted, each_step}
use Rattle.classes.proofs.Putting.{cleared}
use Rattle.classes.proofs.Marked.{going_first, going_few, alone_settles, alone_worked, going_alone, going_more, done_settles, done_worked}
use Rattle.classes.proofs.settle.Goals as goal

pub loop-left-init : goal.loop-left-init
loop-left-init c =
    let a = accepted _ _ c.args.chart.now.read in
    going_first _ _ _ _ a.states_some (cleared _ _ c.requires.n_in_bounds (c.fill.ensures.after (λ y e. e))) c.all_pairs-rows.ensures (c.all.ensures.0 a.states_few)

pub overflow_add-rounds : goal.overflow_add-rounds
overflow_add-rounds c =
    let read = c.args.chart.now.read in
    let a = accepted _ _ read in
    omega (arith, going_few _ _ _ a.states_few (each_step _ _ read) c.of-steps.ensures.table c.loop-left.invariant a.states_some)

pub overflow_cast-rounds : goal.overflow_cast-rounds
overflow_cast-rounds c =
    let read = c.args.chart.now.read in
    let a = accepted _ _ read in
    omega (arith, going_few _ _ _ a.states_few (each_step _ _ read) c.of-steps.ensures.table c.loop-left.invariant a.states_some)

pub put_marks-after-requires-clause-by_index : goal.put_marks-after-requires-clause-by_index
put_marks-after-requires-clause-by_index c =
    let read = c.args.chart.now.read in
    let of = c.of-steps.ensures in
    going_alone _ _ _ (accepted _ _ read).states_few (each_step _ _ read) of.table c.loop-left.invariant (rw (of.counts.0, of.counts.1) at c.round-next.ensures)

pub returns-then-after-eq0 : goal.returns-then-after-eq0
returns-then-after-eq0 c =
    let read = c.args.chart.now.read in
    let few = (accepted _ _ read).states_few in
    let of = c.of-steps.ensures in
    let keeps = rw (of.counts.0, of.counts.1) at c.round-next.ensures in
    let left = c.put_marks-after.ensures in
    let none = c.if-after-eq0.true in
    record {
      settles = done_settles _ _ _ few (each_step _ _ read) of.table c.loop-left.invariant keeps _ left.by_index_2 none;
      worked = done_worked _ _ _ few (each_step _ _ read) of.table c.loop-left.invariant keeps _ left.by_index_2 none left.put_marks (cleared _ _ c.requires.n_in_bounds (c.fill.ensures.after (λ y e. e)));
    }

pub overflow_add-rounds-in-loop-left : goal.overflow_add-rounds-in-loop-left
overflow_add-rounds-in-loop-left c =
    let read = c.args.chart.now.read in
    let a = accepted _ _ read in
    omega (arith, going_few _ _ _ a.states_few (each_step _ _ read) c.of-steps.ensures.table c.loop-left.invariant a.states_some)

pub loop-left-smaller : goal.loop-left-smaller
loop-left-smaller c =
    let read = c.args.chart.now.read in
    let a = accepted _ _ read in
    omega (arith, going_few _ _ _ a.states_few (each_step _ _ read) c.of-steps.ensures.table c.loop-left.invariant a.states_some)

pub loop-left-preserved : goal.loop-left-preserved
loop-left-preserved c =
    let read = c.args.chart.now.read in
    let of = c.of-steps.ensures in
    let keeps = rw (of.counts.0, of.counts.1) at c.round-next.ensures in
    let left = c.put_marks-after.ensures in
    going_more _ _ _ (accepted _ _ read).states_few (each_step _ _ read) of.table c.loop-left.invariant keeps _ left.by_index_2 _ left.by_index_3 (search rules) (search rules) c.if-after-eq0.false left.put_marks

pub returns : goal.returns
returns c =
    let read = c.args.chart.now.read in
    let few = (accepted _ _ read).states_few in
    let table = c.of-steps.ensures.table in
    let none : c.loop-left.left.shared ≡ 0 = search rules in
    record {
      settles = alone_settles _ _ _ few (each_step _ _ read) table c.loop-left.invariant none;
      worked = alone_worked _ _ _ few (each_step _ _ read) table c.loop-left.invariant none (cleared _ _ c.requires.n_in_bounds (c.fill.ensures.after (λ y e. e)));
    }
