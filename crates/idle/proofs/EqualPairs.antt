-- No idle build meets the promise of the number of pairs of equal states: chart E has 6, of which the first round leaves 8, and at rest there are 36.
-- Assumes nothing.
use Prim.Native.Nat.{ℕ}
use mathlib.Core.Path.{◌≡◌, refl, subst, ◌∙◌}
use mathlib.Core.Bool.{true}
use mathlib.Core.List.{[]}
use native.Mathlib.Omega.{arith}
use Rattle.settle.specs.Test.{both, either, implies, any_of, all_of, some, each, count}
use Rattle.settle.specs.Finite.{below, product, pairs}
use Rattle.settle.specs.Chain.{full, chain}
use Rattle.chart.specs.Reading.{steps_at}
use Rattle.chart.proofs.Accepted.{each_step}
use Rattle.sheet.specs.Meaning.{leaves}
use Rattle.nearness.specs.Relation.{matched, bisimulation_round, Near}
use Rattle.nearness.proofs.Bisimulation.{bisimilar_iff}
use Rattle.starred.specs.Boards.{chart_e}
use Rattle.starred.proofs.Boards.{shape_e, read_e}
use Rattle.equal.specs.Promise.{TellsEqual, PairsPromise}
use Rattle.equal.proofs.Promise.{at_least_n}
use Rattle.idle.specs.EqualPairs.{Build, Meets, RefusesEverything, SameAlways, CopiesFirstRound, FewerThanStates, WithoutItself, NotIdle}
use Rattle.idle.proofs.Slice.{e}
use Rattle.idle.proofs.Matrix.{steps_e, resting_bytes, shape_at_rest, read_at_rest}
use Rattle.idle.proofs.Marks.{board, at_rest}
use Rattle.std.specs.Prelude.{Ok}

-- ---- the numbers

-- E's rounds settle at the second
tells_e : TellsEqual 6 steps_e (Near steps_e 2)
tells_e p q i j = bisimilar_iff 6 steps_e (λ u m. (each_step chart_e shape_e read_e u m).target_in) p q i j 2 board.1.0

pairs_e : (count (Near steps_e 1) (pairs 6) ≡ 8) × (count (Near steps_e 2) (pairs 6) ≡ 6)
unfolding chart_e steps_at count pairs product below chain full bisimulation_round matched each some all_of any_of implies both either leaves
pairs_e = (refl, refl)

tells_rest : TellsEqual 6 [] (λ x. true)
tells_rest p q i j = (λ t. at_rest p q, λ h. refl)

pairs_rest : count (λ (x : ℕ × ℕ). true) (pairs 6) ≡ 36
unfolding count pairs product below
pairs_rest = refl

-- ---- the law

module _ (b : Build) (meets : Meets b) where
  on_e : b e ≡ Ok 6
  on_e = let a = (meets e).then_answered shape_e read_e in subst (λ (x : ℕ). b e ≡ Ok x) (a.2 _ tells_e ∙ pairs_e.1) a.1

  on_rest : b resting_bytes ≡ Ok 36
  unfolding steps_at
  on_rest = let a = (meets resting_bytes).then_answered shape_at_rest read_at_rest in subst (λ (x : ℕ). b resting_bytes ≡ Ok x) (a.2 _ tells_rest ∙ pairs_rest) a.1

  refusing : RefusesEverything b → ⊥
  refusing f = let z : ◌≡◌ {A = ℕ} 0 1 = cc ((f e).1, on_e) in omega arith

  same : SameAlways b → ⊥
  same (number, f) = omega (arith, f e shape_e 6 read_e on_e, f resting_bytes shape_at_rest 36 read_at_rest on_rest)

  copies : CopiesFirstRound b → ⊥
  copies f = omega (arith, f e shape_e 6 read_e on_e, pairs_e.0)

  fewer : FewerThanStates b → ⊥
  fewer (chart, sh, c, read, i, less) = omega (arith, less, at_least_n chart.0 sh read c (subst (PairsPromise chart.0) i (meets chart)))

  without_itself : WithoutItself b → ⊥
  without_itself f = omega (arith, f e shape_e 6 read_e on_e (Near steps_e 2) tells_e, pairs_e.1)

  pub equal_pairs_not_idle : NotIdle b
  equal_pairs_not_idle = record { not_refusing = refusing; not_same = same; not_first_round = copies; not_fewer = fewer; not_without_itself = without_itself }
