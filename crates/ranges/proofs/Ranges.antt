-- In the range of a state stand its steps and no others; and an accepted chart's triples stand as `sources` asks.
use Prim.Native.Nat.{ℕ, suc, ◌+◌, ◌*◌, ◌≤◌, ◌<◌}
use mathlib.Core.Path.{◌≡◌, ap}
use Rattle.std.specs.Prelude.{Ok}
use mathlib.Core.List.{List}
use native.Mathlib.Omega.{arith}
use native.Mathlib.Decide.{dec_le}
use lib.ListN.{length, get_or}
use Rattle.chart.specs.Chart.{Step}
use Rattle.chart.specs.Reading.{steps_at, chart_in, read_chart}
use Rattle.chart.specs.declared.Shape.{Shape}
use Rattle.chart.proofs.Steps.{step_member}
use Rattle.chart.proofs.Accepted.{Accepted, accepted, sources_rise}
use Rattle.sheet.proofs.Meaning.{TargetsBelow}
use Rattle.ranges.specs.Sources.{source_at, Stands, Sorted, Ordered, Ranged, steps_by}
use Rattle.ranges.proofs.Rising.{ranged_ordered}

module _ (bytes : List ℕ) (at n : ℕ) (first : List ℕ) (w : Sorted bytes at n first) where
  abbrev t : ℕ
  t = get_or first n 0

  -- where the steps of p end
  pub range_end : (p : ℕ) → p < n → (get_or first (p + 1) 0 ≤ t) × (at + 3 * get_or first (p + 1) 0 ≤ length bytes)
  range_end p h = omega (arith, w.sources.within (p + 1) (omega arith), w.triples.there)

  -- and they do not end before they begin
  pub range_rises : (p : ℕ) → p < n → get_or first p 0 ≤ get_or first (p + 1) 0
  range_rises p h = elim (dec_le (get_or first p 0) (get_or first (p + 1) 0)) [ yes l ↦ l | no f ↦ absurd (omega (arith, w.sources.within p (omega arith), w.sources.before p (get_or first (p + 1) 0) (omega arith) (omega arith), w.sources.after (p + 1) (get_or first (p + 1) 0) (omega arith) (omega (arith, w.sources.within p (omega arith))) (omega arith))) ]

  -- the triples of that range are the steps of p
  pub source_of : (p i : ℕ) → p < n → get_or first p 0 ≤ i → i < get_or first (p + 1) 0 → source_at bytes at i ≡ p
  source_of p i h l k = omega (arith, w.sources.before (p + 1) i (omega arith) k, w.sources.after p i (omega arith) (omega (arith, (range_end p h).0)) l)

  pub range_of : (p i : ℕ) → p < n → i < t → source_at bytes at i ≡ p → (get_or first p 0 ≤ i) × (i < get_or first (p + 1) 0)
  range_of p i h l e = (
    elim (dec_le (get_or first p 0) i) [ yes a ↦ a | no f ↦ absurd (omega (arith, w.sources.before p i (omega arith) (omega arith))) ],
    elim (dec_le (suc i) (get_or first (p + 1) 0)) [ yes a ↦ a | no f ↦ absurd (omega (arith, w.sources.after (p + 1) i (omega arith) l (omega arith))) ],
  )

-- ---- the triples of an accepted chart

pub stands_chart : (s : List ℕ) (sh : Shape) → Accepted s sh → Stands s (4 + sh.n + sh.m) sh.t sh.n
stands_chart s sh a =
    record {
      there = omega (arith, a.whole);
      few = a.states_few;
      sources_in = λ i h. (a.steps_in i h).source_in;
      targets_in = λ i h. (a.steps_in i h).target_in;
      sources_rise = sources_rise s sh a;
    }

pub targets_below : (bytes : List ℕ) (at t n : ℕ) → Stands bytes at t n → TargetsBelow n (steps_at bytes at t)
targets_below bytes at t n st u m = let i = step_member bytes at t m in omega (arith, st.targets_in i.0 i.1, ap (λ (x : Step). x.target) i.2)

pub stands_read : (bytes : List ℕ) (sh : Shape) → read_chart bytes ≡ Ok sh → Stands bytes (4 + sh.n + sh.m) sh.t sh.n
stands_read bytes sh e = stands_chart bytes sh (accepted bytes sh e)

pub shape_few : (bytes : List ℕ) (sh : Shape) → read_chart bytes ≡ Ok sh → (sh.n ≤ 64) × (sh.m ≤ 32)
shape_few bytes sh e = let a = accepted bytes sh e in (a.states_few, a.actions_few)

-- all triples from where those of a chart begin are its steps
pub ordered_steps : {bytes : List ℕ} {sh : Shape} {at : ℕ} {first : List ℕ} → at ≡ 4 + sh.n + sh.m → Ordered bytes sh at first → steps_by bytes at sh.n first ≡ (chart_in bytes sh).steps
ordered_steps e r = rw (e, r.all_are)

-- the triples of an accepted chart, with their sources, are its steps
pub steps_are : {bytes : List ℕ} {sh : Shape} {at : ℕ} {first : List ℕ} → Ranged bytes sh at first → steps_by bytes at sh.n first ≡ (chart_in bytes sh).steps
steps_are r = ordered_steps r.at_is (ranged_ordered r)
