use native.Mathlib.Decide.{dec_lt}
use native.Mathlib.Omega.{arith}
use mathlib.Core.Path.{◌≡◌, ap, ◌∙◌}
use Prim.Native.Nat.{ℕ, ◌+◌}
use Rattle.chart.specs.Chart.{Step}
use Rattle.chart.proofs.Steps.{steps_at_snoc}
use Rattle.steps.specs.Table.{taken}
use Rattle.steps.proofs.Filling.{step_room, step_added}
use Rattle.steps.proofs.table.add_steps.Goals as goal

pub add_step-requires-clause-n_in_bounds : goal.add_step-requires-clause-n_in_bounds
add_step-requires-clause-n_in_bounds c =
    step_room c.args.direction _ _ _ (c.taken.ensures ∙ ap (taken c.args.direction) c.read-step.ensures.value) c.read-step.ensures.within c.loop-i.invariant.table

pub loop-i-preserved : goal.loop-i-preserved
loop-i-preserved c =
    let a = c.args in
    let l = c.loop-i in
    let shape = a.chart.now.shape in
    let at : ℕ = 4 + shape.n + shape.m in
    record {
      table = rw (steps_at_snoc a.chart.now.bytes.now at l.i)
          (step_added a.direction _ _ _ (c.taken.ensures ∙ ap (taken a.direction) c.read-step.ensures.value) c.read-step.ensures.within l.invariant.table c.add_step.ensures);
      sources = λ j b h. elim (dec_lt j l.i) [
        | yes k ↦ l.invariant.sources j b k
        | no k ↦ let q : j ≡ l.i = omega arith in rw q (omega (arith, ap (λ (v : Step). v.source) c.read-step.ensures.value))
      ];
    }
