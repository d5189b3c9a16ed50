-- A triple is fine exactly if judging it byte by byte finds no fault: the order of triples is that of their ranks.
use Prim.Native.Nat.{ℕ, ◌+◌, ◌-◌, ◌*◌, ◌≤◌, ◌<◌}
use mathlib.Core.Path.{◌≡◌, refl, sym, ◌∙◌}
use mathlib.Core.Bool.{Bool, true, false}
use mathlib.Core.List.{List}
use native.Mathlib.Omega.{arith}
use lib.ListN.{length, get_or}
use lib.Dec.{ltb, eqb}
use borrow.Author.Tests.{lt-ltb, le-ltb, ltb-true, ltb-false, lt-leb, ne_eqb}
use Rattle.std.specs.Prelude.{Ok, Err}
use Rattle.settle.specs.Test.{pick}
use Rattle.refusal.specs.Refusal.{chart_refusal}
use Rattle.chart.specs.Chart.{Step}
use Rattle.chart.specs.Fine.{rank, rank_at, least_rank, Fine}
use Rattle.chart.specs.Reading.{step_at, earlier, Judged, and_then, faultless, triple_order, judge_triple, judge_triples}
use Rattle.chart.proofs.Reading.{fine_test, triples_step, triple_fine}

-- of two triples of bytes the first is earlier exactly if its rank is below the other's
earlier_rank : (a b : Step) → a.action < 256 → a.target < 256 → b.action < 256 → b.target < 256
    → earlier a b ≡ ltb (rank a.source a.action a.target) (rank b.source b.action b.target)
earlier_rank a b h k h' k' = go (ltb a.source b.source) refl (ltb b.source a.source) refl (ltb a.action b.action) refl (ltb b.action a.action) refl (ltb a.target b.target) refl
  where
    go : (v : Bool) → ltb a.source b.source ≡ v → (w : Bool) → ltb b.source a.source ≡ w → (x : Bool) → ltb a.action b.action ≡ x
        → (y : Bool) → ltb b.action a.action ≡ y → (z : Bool) → ltb a.target b.target ≡ z
        → pick v true (pick w false (pick x true (pick y false z))) ≡ ltb (rank a.source a.action a.target) (rank b.source b.action b.target)
    go true e w _ x _ y _ z _ = sym (lt-ltb _ _ (omega (arith, ltb-true _ _ e)))
    go false _ true f x _ y _ z _ = sym (le-ltb _ _ (omega (arith, ltb-true _ _ f)))
    go false e false f true g y _ z _ = sym (lt-ltb _ _ (omega (arith, ltb-false _ _ e, ltb-false _ _ f, ltb-true _ _ g)))
    go false e false f false _ true g z _ = sym (le-ltb _ _ (omega (arith, ltb-false _ _ e, ltb-false _ _ f, ltb-true _ _ g)))
    go false e false f false g false h true i = sym (lt-ltb _ _ (omega (arith, ltb-false _ _ e, ltb-false _ _ f, ltb-false _ _ g, ltb-false _ _ h, ltb-true _ _ i)))
    go false e false f false g false h false i = sym (le-ltb _ _ (omega (arith, ltb-false _ _ e, ltb-false _ _ f, ltb-false _ _ g, ltb-false _ _ h, ltb-false _ _ i)))

module _ (s : List ℕ) (n m p i : ℕ) (small : (k : ℕ) → get_or s k 0 < 256) where
  order : earlier (step_at s (p - 3)) (step_at s p) ≡ ltb (rank_at s (p - 3)) (rank_at s p)
  order = earlier_rank (step_at s (p - 3)) (step_at s p) (small _) (small _) (small _) (small _)

  ordered : least_rank s p i ≤ rank_at s p → triple_order s p i ≡ faultless
  ordered h = go (eqb i 0) h
    where
      go : (b : Bool) → pick b 0 (rank_at s (p - 3) + 1) ≤ rank_at s p → pick b faultless (pick (earlier (step_at s (p - 3)) (step_at s p)) faultless (Err (chart_refusal 7 i 0))) ≡ faultless
      go true h = refl
      go false h = rw (order, lt-ltb (rank_at s (p - 3)) (rank_at s p) (omega arith)) refl

  by_rank : triple_order s p i ≡ faultless → least_rank s p i ≤ rank_at s p
  by_rank e = go (eqb i 0) e
    where
      go : (b : Bool) → pick b faultless (pick (earlier (step_at s (p - 3)) (step_at s p)) faultless (Err (chart_refusal 7 i 0))) ≡ faultless → pick b 0 (rank_at s (p - 3) + 1) ≤ rank_at s p
      go true e = omega arith
      go false e = omega (arith, ltb-true _ _ (sym order ∙ fine_test (earlier (step_at s (p - 3)) (step_at s p)) _ e))

  pub fine_faultless : Fine s n m p (least_rank s p i) → judge_triple s n m p i ≡ faultless
  fine_faultless (there, source, action, target, above) =
      rw (
        lt-leb (length s) p (omega arith),
        lt-ltb _ n source,
        lt-leb (length s) (p + 1) (omega arith),
        lt-ltb _ m action,
        lt-leb (length s) (p + 2) there,
        lt-ltb _ n target,
        ordered above,
      )

  pub faultless_fine : judge_triple s n m p i ≡ faultless → Fine s n m p (least_rank s p i)
  faultless_fine e = let f = triple_fine s n m p i e in (f.0, f.1.source_in, f.1.action_in, f.1.target_in, by_rank f.2)

module _ (s : List ℕ) (n m at i t least : ℕ) (small : (k : ℕ) → get_or s k 0 < 256) (within : i < t) (least_is : least ≡ least_rank s (at + 3 * i) i) where
  -- after one that is fine the rest is judged, which begins in the bytes
  pub fine_passed : Fine s n m (at + 3 * i) least
      → (judge_triples s n m (at + 3 * i) i (t - i) ≡ judge_triples s n m (at + 3 * (i + 1)) (i + 1) (t - (i + 1)))
      × (at + 3 * (i + 1) ≤ length s)
      × (rank_at s (at + 3 * i) + 1 ≡ least_rank s (at + 3 * (i + 1)) (i + 1))
  fine_passed f =
      let q : at + 3 * (i + 1) - 3 ≡ at + 3 * i = omega arith in (
        triples_step s n m at i t within ∙ rw (fine_faultless s n m (at + 3 * i) i small (rw least_is at f)) refl,
        omega (arith, f.0),
        rw (ne_eqb (i + 1) 0 (λ z. omega arith), q) refl,
      )

  -- one that is not ends it, with its fault
  pub fault_told : (Fine s n m (at + 3 * i) least → ⊥) → judge_triples s n m (at + 3 * i) i (t - i) ≡ judge_triple s n m (at + 3 * i) i
  fault_told f = triples_step s n m at i t within ∙ go _ (judge_triple s n m (at + 3 * i) i) (λ e. f (rw least_is (faultless_fine s n m (at + 3 * i) i small e)))
    where
      go : (rest x : Judged) → (x ≡ faultless → ⊥) → and_then x rest ≡ x
      go rest (Ok tt) g = absurd (g refl)
      go rest (Err r) g = refl
