use native.Mathlib.Omega.{arith}
use Prim.Native.Nat.{◌+◌}
use mathlib.Core.Path.{◌≡◌, refl}
use Rattle.std.specs.Prelude.{Err}
use Rattle.std.proofs.lemmas.Grind.{common_steps}
use Rattle.relation.proofs.Cells.{cells_few}
use Rattle.compare.proofs.Promise.{not_refused, compares}
use Rattle.compare.proofs.of_joined.Goals as goal

pub write-requires : goal.write-requires
write-requires c =
    let a = c.args in
    (c.requires.0, c.requires.1, omega (arith, cells_few (a.first + a.second) c.requires.1, c.marks.auto.buffer))

pub returns-in_err-given : goal.returns-in_err-given
returns-in_err-given c =
    let a = c.args in
    λ b d f g w e i j. absurd (not_refused b d w a.chart.now e _ _ refl c.in_err-given.ensures)

pub returns-in_err-written : goal.returns-in_err-written
returns-in_err-written c =
    let a = c.args in
    let is : c.from_residual-in_err-written.result ≡ Err c.in_err-written.field-0.0 = grind (arith, common_steps) in
    λ b d f g w e i j. compares b d w a.chart.now e _ _ refl f g i j c.in_ok-given.ensures c.write.ensures (rw c.in_err-written.was is)

pub returns : goal.returns
returns c =
    let a = c.args in
    λ b d f g w e i j. compares b d w a.chart.now e _ _ refl f g i j c.in_ok-given.ensures c.write.ensures (rw c.in_ok-written.was)
