use Prim.Native.Nat.{ℕ, ◌+◌}
use mathlib.Core.Path.{ap, sym, ◌∙◌}
use mathlib.Core.Bool.{false≢true}
use native.Mathlib.Omega.{arith}
use Rattle.chart.proofs.Fine.{fine_passed, fault_told}
use Rattle.chart.proofs.judge_triples.Goals as goal

pub returns-then-not-is_fine : goal.returns-then-not-is_fine
returns-then-not-is_fine c =
    let a = c.args in
    let told = fault_told a.bytes.now a.n a.m a.at c.loop-i.i a.t c.loop-i.least (λ k. omega (arith, c.type_inv.bytes k)) c.loop-i-test.true c.loop-i.invariant.2 in
    c.judge_triple.ensures ∙ sym (c.loop-i.invariant.0 ∙ told (λ f. false≢true (sym c.if-not-is_fine.true ∙ c.is_fine.ensures.1 f)))

pub loop-i-preserved : goal.loop-i-preserved
loop-i-preserved c =
    let a = c.args in
    let passed = fine_passed a.bytes.now a.n a.m a.at c.loop-i.i a.t c.loop-i.least (λ k. omega (arith, c.type_inv.bytes k)) c.loop-i-test.true c.loop-i.invariant.2 (c.is_fine.ensures.0 c.if-not-is_fine.false) in
    (c.loop-i.invariant.0 ∙ passed.0, passed.1, ap (λ (r : ℕ). r + 1) c.rank-least.ensures ∙ passed.2)
