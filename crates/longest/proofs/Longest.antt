-- The full chart and the nested formula are accepted, and their files have the greatest lengths. Assumes nothing.
use Prim.Native.Nat.{ℕ, zero, suc, ◌+◌, ◌*◌, ◌%◌, ◌<◌, ◌≤◌}
use mathlib.Core.Path.{◌≡◌, refl, ap}
use mathlib.Core.List.Memᴰ.{cases_cons}
use mathlib.Core.List.Memᴰ.{head as here}
use mathlib.Core.List.Memᴰ.{not-nil}
use mathlib.Core.List.Memᴰ.{tail as there}
use mathlib.Core.List.{Memᴰ as Mem}
use mathlib.Core.Logic.{inl, inr}
use native.Mathlib.Omega.{arith}
use native.Mathlib.Decide.{ℕ_discrete}
use lib.ListN.{length}
use Rattle.chart.specs.Layout.{longest_chart, encode, Earlier, Rising, StepIn, WellFormed}
use Rattle.chart.specs.Reading.{read_chart, shape_of}
use Rattle.chart.proofs.Accepted.{accepted}
use Rattle.chart.proofs.Exactly.{encoded_reads}
use Rattle.sheet.specs.Formula.{nodes}
use Rattle.sheet.specs.Layout as Sheet
use Rattle.sheet.specs.Layout.{longest_sheet, formula_bytes, LabelIn, LabelsIn}
use Rattle.sheet.specs.Reading.{sheet, read_sheet}
use Rattle.sheet.proofs.Accepted.{layout_written}
use Rattle.longest.specs.Longest.{counted, step_of, full_chart, nested}
use Rattle.std.specs.Prelude.{Ok}

-- ---- items that are counted

module _ {A : Type 0} (item : ℕ → A) where
  pub counted_length : (i k : ℕ) → length (counted item i k) ≡ k
  unfolding counted
  counted_length i zero = refl
  counted_length i (suc k) = ap suc (counted_length (suc i) k)

  pub counted_member : {x : A} (i k : ℕ) → Mem x (counted item i k) → (j : ℕ) × (j < i + k) × (x ≡ item j)
  unfolding counted
  counted_member i zero m = absurd (not-nil m)
  counted_member i (suc k) m = elim (cases_cons m) [
    | inl e ↦ (i, omega arith, e)
    | inr l ↦ let r = counted_member (suc i) k l in (r.0, omega (arith, r.1), r.2)
  ]

  pub counted_i : (i k j : ℕ) → i ≤ j → j < i + k → Mem (item j) (counted item i k)
  unfolding counted
  counted_i i zero j l h = absurd (omega arith)
  counted_i i (suc k) j l h = elim (ℕ_discrete j i) [ yes e ↦ here (ap item e) | no f ↦ there (counted_i (suc i) k j (omega arith) (omega arith)) ]

  pub counted_rising : (R : A → A → Type 0) → ((j : ℕ) → R (item j) (item (suc j))) → (i k : ℕ) → Rising R (counted item i k)
  unfolding counted Rising
  counted_rising R f i zero = tt
  counted_rising R f i (suc zero) = tt
  counted_rising R f i (suc (suc k)) = (f i, counted_rising R f (suc i) (suc k))

-- ---- the chart

steps_rise : (i : ℕ) → Earlier (step_of i) (step_of (suc i))
steps_rise i = elim (ℕ_discrete (i % 32) 31) [ yes e ↦ inl (omega arith) | no n ↦ inr (omega arith, inl (omega arith)) ]

step_in : (i : ℕ) → i < 1024 → StepIn 64 32 (step_of i)
step_in i h = record { source_in = omega arith; action_in = omega arith; target_in = omega arith }

pub full_formed : WellFormed full_chart
full_formed =
    let n : length (counted (λ i. i) 0 64) ≡ 64 = counted_length (λ i. i) 0 64 in
    let m : length (counted (λ i. i) 0 32) ≡ 32 = counted_length (λ i. i) 0 32 in
    let t : length (counted step_of 0 1024) ≡ 1024 = counted_length step_of 0 1024 in
    record {
      states_some = omega arith;
      states_few = omega arith;
      modes_bytes = λ x l. (let r = counted_member (λ i. i) 0 64 l in omega (arith, r.1, r.2));
      actions_few = omega arith;
      codes_bytes = λ x l. (let r = counted_member (λ i. i) 0 32 l in omega (arith, r.1, r.2));
      codes_rise = counted_rising (λ i. i) ◌<◌ (λ j. omega arith) 0 32;
      transitions_few = omega arith;
      steps_in = λ s l. (let r = counted_member step_of 0 1024 l in rw (n, m, r.2) (step_in r.0 (omega (arith, r.1))));
      steps_rise = counted_rising step_of Earlier steps_rise 0 1024;
    }

-- it is accepted, and as long as a chart can be
pub full_accepted : read_chart (encode full_chart) ≡ Ok (shape_of full_chart)
full_accepted = (encoded_reads (encode full_chart) full_chart refl full_formed).0

pub full_length : length (encode full_chart) ≡ longest_chart
full_length = omega (
  arith,
  (accepted (encode full_chart) (shape_of full_chart) full_accepted).whole,
  counted_length (λ (i : ℕ). i) 0 64,
  counted_length (λ (i : ℕ). i) 0 32,
  counted_length step_of 0 1024,
)

-- ---- the sheet

nested_nodes : (k : ℕ) → nodes (nested k) ≡ suc k
unfolding nested nodes
nested_nodes zero = refl
nested_nodes (suc k) = ap suc (nested_nodes k)

nested_bytes : (k : ℕ) → length (formula_bytes (nested k)) ≡ 2 * k + 1
unfolding nested formula_bytes
nested_bytes zero = refl
nested_bytes (suc k) = omega (arith, nested_bytes k)

nested_labels : (m k : ℕ) → LabelsIn m (nested k)
unfolding nested LabelsIn LabelIn
nested_labels m zero = tt
nested_labels m (suc k) = (tt, nested_labels m k)

-- it is accepted, whatever actions the chart has, and as long as a sheet can be
pub nested_formed : (m : ℕ) → Sheet.WellFormed m 0 (nested 199)
nested_formed m = record { kind_known = omega arith; nodes_few = omega (arith, nested_nodes 199); labels_in = nested_labels m 199 }

pub nested_accepted : (m : ℕ) → m ≤ 32 → read_sheet (Sheet.encode 0 (nested 199)) m ≡ sheet 0 (nodes (nested 199)) (nested 199)
nested_accepted m few = layout_written m few 0 (nested 199) (nested_formed m)

pub nested_length : length (Sheet.encode 0 (nested 199)) ≡ longest_sheet
unfolding Sheet.encode
nested_length = omega (arith, nested_bytes 199)
