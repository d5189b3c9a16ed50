-- Each byte of a slice is one.
use native.Mathlib.Omega.{arith}
use mathlib.Core.Path.{◌≡◌}
use Rattle.std.proofs.lemmas.Grind.{common_steps}
use Rattle.chart.proofs.Exactly.{known_bytes}
use Rattle.side_by_side.proofs.join.Goals as goal

pub together-requires : goal.together-requires
together-requires c =
    let first = known_bytes c.args.first.now (λ i. omega (arith, c.type_inv.first i)) in
    let second = known_bytes c.args.second.now (λ i. omega (arith, c.type_inv.second i)) in
    let same : c.in_ok-other.other.bytes.now ≡ c.args.second.now = grind (arith, common_steps) in
    (rw c.in_ok-one.ensures.1 first, rw same second)
