use native.Mathlib.Omega.{arith}
use Rattle.std.specs.Prelude.{Err}
use mathlib.Core.Path.{◌≡◌}
use Rattle.std.proofs.lemmas.Grind.{common_steps}
use Rattle.chart.proofs.Accepted.{accepted}
use Rattle.relation.proofs.Cells.{cells_few}
use Rattle.relation.proofs.Promise.{promise_chart, promise_short, promise_worked}
use Rattle.marks.proofs.Promise.{worked, marks_of}
use Rattle.marks.proofs.marks.Goals as goal

pub returns-in_err-accepted : goal.returns-in_err-accepted
returns-in_err-accepted c =
    let is : c.from_residual.result ≡ Err c.in_err-accepted.field-0.0 = grind (arith, common_steps) in
    rw is (promise_chart _ _ _ c.in_err-accepted.ensures)

pub overflow_mul-n : goal.overflow_mul-n
overflow_mul-n c = record { fits = omega (arith, cells_few _ (accepted _ _ c.in_ok-accepted.ensures.0).states_few) }

pub returns-then-buffer-n : goal.returns-then-buffer-n
returns-then-buffer-n c = promise_short _ _ c.in_ok-accepted.ensures.0 _ _ c.if-buffer-n.true c.of_lent.ensures

pub returns : goal.returns
returns c =
    let is = c.in_ok-accepted.ensures.1 in
    promise_worked _ _ c.in_ok-accepted.ensures.0 _ _ _ c.if-buffer-n.false (worked _ _ c.work_out-settled.result (rw is at c.work_out-settled.ensures.settles) (rw is at c.work_out-settled.ensures.worked)) (λ some targets w. marks_of _ _ _ some targets w)
