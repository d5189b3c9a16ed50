-- A pair bears at most one mark; it is 0 where no formula tells the pair apart, and else the smallest depth of one that does. Assumes nothing.
use mathlib.Core.Path.{◌≡◌, refl}
use mathlib.Core.Bool.{So}
use mathlib.Core.List.{List}
use mathlib.Core.Logic.{◌↔◌}
use Prim.Native.Nat.{ℕ, zero, suc, ◌≤◌}
use native.Mathlib.Decide.{dec_le}
use native.Mathlib.Omega.{arith}
use Rattle.settle.proofs.Test.{stable}
use Rattle.settle.proofs.Chain.{least_unique}
use Rattle.chart.specs.Chart.{Step}
use Rattle.sheet.specs.Formula.{Formula, depth}
use Rattle.nearness.specs.Relation.{Near}
use Rattle.nearness.specs.Mark.{TellsApart, SmallestDepth, Mark}
use Rattle.nearness.proofs.Formulas.{near_iff, near_sym, near_down, tells_apart}

module _ (steps : List Step) (p q : ℕ) where
  pub mark_unique : (d e : ℕ) → Mark steps p q d → Mark steps p q e → d ≡ e
  unfolding Mark
  mark_unique zero zero a b = refl
  mark_unique zero (suc e) a b = absurd (b.0 (a (suc e)))
  mark_unique (suc d) zero a b = absurd (a.0 (b (suc d)))
  mark_unique (suc d) (suc e) a b = least_unique _ (suc d) (suc e) a b

  -- the round that drops a pair is its mark
  pub mark_drop : (d : ℕ) → So (Near steps d (p, q)) → (So (Near steps (suc d) (p, q)) → ⊥) → Mark steps p q (suc d)
  unfolding Mark
  mark_drop d h f = (f, λ j l g. g (near_down steps j d p q (omega arith) h))

-- in either order
pub mark_turned : (steps : List Step) (p q k : ℕ) → Mark steps p q k → Mark steps q p k
unfolding Mark
mark_turned steps p q zero m = λ j. near_sym steps j p q (m j)
mark_turned steps p q (suc k) m = (λ t. m.0 (near_sym steps (suc k) q p t), λ j h o. m.1 j h (λ t. o (near_sym steps j p q t)))

module _ (m : ℕ) (steps : List Step) (p q : ℕ) where
  pub mark_zero : Mark steps p q 0 ↔ ((f : Formula) → TellsApart m steps f p q → ⊥)
  unfolding Mark
  mark_zero = (λ h f a. (near_iff m steps (depth f) p q).0 (h (depth f)) f (omega arith) a, λ g k. (near_iff m steps k p q).1 (λ f d a. g f a))

  pub mark_depth : (d : ℕ) → Mark steps p q (suc d) ↔ SmallestDepth m steps p q (suc d)
  unfolding Mark
  mark_depth d = (forth, back)
    where
      deep : Mark steps p q (suc d) → (f : Formula) → TellsApart m steps f p q → suc d ≤ depth f
      deep h f a = elim (dec_le (suc d) (depth f)) [ yes l ↦ l | no n ↦ absurd ((near_iff m steps (depth f) p q).0 (stable _ (h.1 (depth f) (omega arith))) f (omega arith) a) ]

      forth : Mark steps p q (suc d) → SmallestDepth m steps p q (suc d)
      forth h = let r = tells_apart m steps (suc d) p q h.0 in ((r.0, omega (arith, deep h r.0 r.2), r.2), λ j l x. omega (arith, deep h x.0 x.2))

      back : SmallestDepth m steps p q (suc d) → Mark steps p q (suc d)
      back h = (λ n. (near_iff m steps (suc d) p q).0 n h.0.0 (omega arith) h.0.2, λ j l n. let r = tells_apart m steps j p q n in h.1 (depth r.0) (omega arith) (r.0, refl, r.2))
