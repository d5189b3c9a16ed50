-- The triples of an accepted chart rise, and not only from each to the next. Assumes nothing.
use Prim.Native.Nat.{ℕ, suc, ◌+◌, ◌*◌, ◌≤◌, ◌<◌}
use mathlib.Core.Path.{◌≡◌}
use mathlib.Core.List.{List}
use Rattle.std.specs.Prelude.{Ok}
use Rattle.std.proofs.Math.Bool.{So}
use native.Mathlib.Omega.{arith}
use native.Mathlib.Decide.{le_ind}
use lib.ListN.{get_or}
use Rattle.chart.specs.Chart.{Step}
use Rattle.chart.specs.Layout.{Earlier}
use Rattle.chart.specs.Reading.{step_at, earlier, read_chart}
use Rattle.chart.specs.declared.Shape.{Shape}
use Rattle.chart.proofs.Accepted.{Accepted, accepted}
use Rattle.chart.proofs.Judging.{earlier_is, is_earlier}
use Rattle.chart.proofs.Rising.{less_trans}
use Rattle.ranges.specs.Sources.{Sorted, TriplesRise, Ordered, Ranged}

earlier_trans : (a b c : Step) → Earlier a b → Earlier b c → Earlier a c
earlier_trans a b c = less_trans a.source a.action a.target b.source b.action b.target c.source c.action c.target

module _ (s : List ℕ) (sh : Shape) (A : Accepted s sh) (i : ℕ) where
  abbrev Before : ℕ → Type 0
  Before k = Earlier (step_at s (4 + sh.n + sh.m + 3 * i)) (step_at s (4 + sh.n + sh.m + 3 * k))

  one_more : (k : ℕ) → suc i ≤ k → (k < sh.t → Before k) → suc k < sh.t → Before (suc k)
  one_more k h below l =
      let e : k + 1 ≡ suc k = omega arith in
      earlier_trans _ _ _ (below (omega arith)) (rw e at (A.steps_rise k (omega arith)))

  rises : (j : ℕ) → i < j → j < sh.t → Before j
  rises j h =
      let e : i + 1 ≡ suc i = omega arith in
      le_ind (λ k. k < sh.t → Before k) (λ l. rw e at (A.steps_rise i (omega arith))) one_more j h

pub triples_rise : (s : List ℕ) (sh : Shape) → Accepted s sh → TriplesRise s (4 + sh.n + sh.m) sh.t
triples_rise = rises

pub rise_read : (bytes : List ℕ) (sh : Shape) (t : ℕ) → read_chart bytes ≡ Ok sh → t ≡ sh.t
    → (i j : ℕ) → i < j → j < t → So (earlier (step_at bytes (4 + sh.n + sh.m + 3 * i)) (step_at bytes (4 + sh.n + sh.m + 3 * j)))
rise_read bytes sh t read e i j h k = is_earlier _ _ (triples_rise bytes sh (accepted bytes sh read) i j h (omega arith))

pub ordered_rise : {bytes : List ℕ} {sh : Shape} {at : ℕ} {first : List ℕ} → Ordered bytes sh at first → TriplesRise bytes at (get_or first sh.n 0)
ordered_rise r i j h k = earlier_is _ _ (r.rise i j h k)

-- so are triples that are known to rise as they were asked to before
pub rise_ordered : {bytes : List ℕ} {sh : Shape} {at : ℕ} {first : List ℕ} → Sorted bytes at sh.n first → TriplesRise bytes at (get_or first sh.n 0) → get_or first sh.n 0 ≡ sh.t
    → Ordered bytes sh at first
rise_ordered w rise all = record { sorted = w; rise = λ i j h k. is_earlier _ _ (rise i j h k); all_are = all }

-- and so are those of a chart
pub ranged_ordered : {bytes : List ℕ} {sh : Shape} {at : ℕ} {first : List ℕ} → Ranged bytes sh at first → Ordered bytes sh at first
ranged_ordered {bytes} {sh} r = record { sorted = r.sorted; rise = rw r.at_is (rise_read bytes sh _ r.read r.all_are); all_are = r.all_are }

pub ranged_rise : {bytes : List ℕ} {sh : Shape} {at : ℕ} {first : List ℕ} → Ranged bytes sh at first → TriplesRise bytes at (get_or first sh.n 0)
ranged_rise r = ordered_rise (ranged_ordered r)
