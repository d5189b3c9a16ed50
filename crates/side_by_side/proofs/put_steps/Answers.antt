use native.Mathlib.Omega.{arith}
use Rattle.side_by_side.proofs.Written.{known, step_known, front_none, front_added}
use Rattle.side_by_side.proofs.put_steps.Goals as goal

pub overflow_add-at-2 : goal.overflow_add-at-2
overflow_add-at-2 c = omega (arith, known c.args.chart.now)

pub loop-i-init : goal.loop-i-init
loop-i-init c = front_none c.args.chart.now.bytes.now c.args.chart.now.shape c.args.places.now c.args.shift c.args.page.now

pub overflow_add-step : goal.overflow_add-step
overflow_add-step c = let there = step_known c.args.chart.now c.loop-i.i c.loop-i-test.true in omega arith

pub bounds-chart-step : goal.bounds-chart-step
bounds-chart-step c = let there = step_known c.args.chart.now c.loop-i.i c.loop-i-test.true in omega arith

pub overflow_add-step-in-loop-i : goal.overflow_add-step-in-loop-i
overflow_add-step-in-loop-i c = let there = step_known c.args.chart.now c.loop-i.i c.loop-i-test.true in omega arith

pub bounds-chart-step-in-loop-i : goal.bounds-chart-step-in-loop-i
bounds-chart-step-in-loop-i c = let there = step_known c.args.chart.now c.loop-i.i c.loop-i-test.true in omega arith

pub bounds-chart-codes : goal.bounds-chart-codes
bounds-chart-codes c = let there = step_known c.args.chart.now c.loop-i.i c.loop-i-test.true in omega arith

pub overflow_add-step-in-loop-i-2 : goal.overflow_add-step-in-loop-i-2
overflow_add-step-in-loop-i-2 c = let there = step_known c.args.chart.now c.loop-i.i c.loop-i-test.true in omega arith

pub bounds-chart-step-in-loop-i-2 : goal.bounds-chart-step-in-loop-i-2
bounds-chart-step-in-loop-i-2 c = let there = step_known c.args.chart.now c.loop-i.i c.loop-i-test.true in omega arith

pub overflow_cast-source : goal.overflow_cast-source
overflow_cast-source c = let there = step_known c.args.chart.now c.loop-i.i c.loop-i-test.true in omega arith

pub overflow_cast-target : goal.overflow_cast-target
overflow_cast-target c = let there = step_known c.args.chart.now c.loop-i.i c.loop-i-test.true in omega arith

pub loop-i-preserved : goal.loop-i-preserved
loop-i-preserved c =
    let a = c.args in
    let there = step_known a.chart.now c.loop-i.i c.loop-i-test.true in
    front_added a.chart.now.bytes.now a.chart.now.shape a.places.now a.shift a.page.now c.loop-i.page c.put_bytes.new.self c.loop-i.i _ _ _ there.0 (omega arith) (cc) (cc) (cc) c.loop-i.invariant c.put_bytes.ensures
