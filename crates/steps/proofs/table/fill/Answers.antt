use native.Mathlib.Decide.{dec_lt}
use native.Mathlib.Omega.{arith}
use mathlib.Core.Path.{◌≡◌}
use Rattle.chart.specs.Reading.{steps_at}
use Rattle.chart.proofs.Accepted.{accepted}
use Rattle.steps.proofs.Filling.{table_none}
use Rattle.steps.proofs.table.fill.Goals as goal

pub loop-s-init : goal.loop-s-init
unfolding steps_at
loop-s-init c = record { few = omega arith; later = λ l. omega arith; table = table_none c.args.direction _ _ _ c.requires.blank c.requires.n_in_bounds }

pub returns : goal.returns
returns c =
    let l = c.loop-s in
    let all : l.i ≡ c.args.chart.now.shape.t =
    elim (dec_lt l.i c.args.chart.now.shape.t) [
      | yes h ↦ absurd (omega (arith, l.invariant.later h, ((accepted _ _ c.args.chart.now.read).steps_in l.i h).source_in))
      | no h ↦ omega (arith, l.invariant.few)
    ] in
    rw (← all) l.invariant.table
