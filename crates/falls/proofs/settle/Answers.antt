use borrow.Author.Rules.{rules}
use native.Mathlib.Omega.{arith}
use Prim.Native.Nat.{ℕ}
use mathlib.Core.Path.{ap}
use Rattle.chart.proofs.Accepted.{accepted, each_step}
use Rattle.words.specs.Words.{member}
use Rattle.falls.proofs.Walks.{noted_among}
use Rattle.falls.proofs.Steps.{chart_tables}
use Rattle.falls.proofs.Rounding.{rounding_first, rounding_more, rounding_few, rounding_done}
use Rattle.falls.proofs.settle.Goals as goal

pub returns-then-fell-eq0 : goal.returns-then-fell-eq0
returns-then-fell-eq0 c =
    let read = c.args.chart.now.read in
    let few = (accepted _ _ read).states_few in
    let of = c.of-forth.ensures in
    rounding_done (rounding_first few (each_step _ _ read) of.table c.all_pairs-whole.ensures (rw (of.counts.0, of.counts.1) at c.first_round-rows.ensures) (noted_among _ _ (λ p. ap (λ (w : ℕ). member w p) (c.all.ensures.0 few)) c.note.ensures)) c.if-fell-eq0.true

pub loop-fell-init : goal.loop-fell-init
loop-fell-init c =
    let read = c.args.chart.now.read in
    let few = (accepted _ _ read).states_few in
    let of = c.of-forth.ensures in
    rounding_first few (each_step _ _ read) of.table c.all_pairs-whole.ensures (rw (of.counts.0, of.counts.1) at c.first_round-rows.ensures) (noted_among _ _ (λ p. ap (λ (w : ℕ). member w p) (c.all.ensures.0 few)) c.note.ensures)

pub round-rows-requires : goal.round-rows-requires
round-rows-requires c =
    let w = c.loop-fell.invariant in rw c.of-forth.ensures.counts.0 (record { within = w.holds.within; fallen = w.took.some_fell })

pub overflow_add-rounds : goal.overflow_add-rounds
overflow_add-rounds c =
    let T = chart_tables _ _ c.args.chart.now.read c.of-forth.ensures.table c.fill.ensures in
    omega (arith, rounding_few T c.loop-fell.invariant (omega (arith, c.loop-fell-test.true)))

pub loop-fell-smaller : goal.loop-fell-smaller
loop-fell-smaller c =
    let T = chart_tables _ _ c.args.chart.now.read c.of-forth.ensures.table c.fill.ensures in
    omega (arith, rounding_few T c.loop-fell.invariant (omega (arith, c.loop-fell-test.true)))

pub loop-fell-preserved : goal.loop-fell-preserved
loop-fell-preserved c =
    let of = c.of-forth.ensures in
    let T = chart_tables _ _ c.args.chart.now.read of.table c.fill.ensures in
    let next = c.round-rows.ensures in
    rounding_more T c.loop-fell.invariant (omega (arith, c.loop-fell-test.true)) (rw (of.counts.0, of.counts.1) at next.keeps) (rw of.counts.0 at next.noted)

pub returns : goal.returns
returns c = rounding_done c.loop-fell.invariant (search rules)
