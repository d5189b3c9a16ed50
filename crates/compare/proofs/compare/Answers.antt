use native.Mathlib.Omega.{arith}
use mathlib.Core.Path.{refl, sym}
use lib.Seq.{length-take-le}
use Rattle.chart.proofs.Exactly.{known_bytes}
use Rattle.beside.proofs.Formed.{states_together}
use Rattle.compare.proofs.Promise.{stands_joined, promised}
use Rattle.compare.proofs.compare.Goals as goal

pub slice_bounds-chart-end : goal.slice_bounds-chart-end
slice_bounds-chart-end c = (stands_joined c.args.first.now c.args.second.now _ _ (known_bytes c.args.first.now (λ i. omega (arith, c.type_inv.first i))) (known_bytes c.args.second.now (λ i. omega (arith, c.type_inv.second i))) refl c.in_ok-joined.ensures).inside

pub slice_bounds-of_joined-end : goal.slice_bounds-of_joined-end
slice_bounds-of_joined-end c = sym (length-take-le _ c.join.new.out (stands_joined c.args.first.now c.args.second.now _ _ (known_bytes c.args.first.now (λ i. omega (arith, c.type_inv.first i))) (known_bytes c.args.second.now (λ i. omega (arith, c.type_inv.second i))) refl c.in_ok-joined.ensures).inside)

pub of_joined-requires : goal.of_joined-requires
of_joined-requires c =
    let w = stands_joined c.args.first.now c.args.second.now _ _ (known_bytes c.args.first.now (λ i. omega (arith, c.type_inv.first i))) (known_bytes c.args.second.now (λ i. omega (arith, c.type_inv.second i))) refl c.in_ok-joined.ensures in
    (omega (arith, w.second_is, w.formed_second.states_some), omega (arith, w.first_is, w.second_is, states_together w.c w.d, w.formed.states_few))

pub returns : goal.returns
returns c =
    let a = c.args in
    let w = stands_joined c.args.first.now c.args.second.now _ _ (known_bytes c.args.first.now (λ i. omega (arith, c.type_inv.first i))) (known_bytes c.args.second.now (λ i. omega (arith, c.type_inv.second i))) refl c.in_ok-joined.ensures in
    promised a.first.now a.second.now a.buffer.now _ _ w.read (c.of_joined.ensures w.c w.d w.formed_first w.formed_second w.formed w.layout w.first_is w.second_is)
