-- The chart that steps to itself and the chart at rest stand side by side, and all 64 states are listed. Assumes nothing.
use Prim.Native.Nat.{ℕ, ◌+◌, ◌≤◌}
use mathlib.Core.Path.{◌≡◌, refl, ap}
use mathlib.Core.Bool.{true}
use mathlib.Core.List.Memᴰ.{eq_of_singleton as only_one}
use mathlib.Core.List.Memᴰ.{head as here}
use mathlib.Core.List.Memᴰ.{not-nil}
use mathlib.Core.Logic.{⊎_elim}
use native.Mathlib.Omega.{arith}
use lib.ListN.{length}
use Rattle.chart.specs.Chart.{states}
use Rattle.chart.specs.Layout.{encode, Rising, WellFormed}
use Rattle.chart.specs.Reading.{shape_of}
use Rattle.chart.proofs.Exactly.{encoded_reads}
use Rattle.nearness.proofs.Rounds.{near_rounds, mark_is}
use Rattle.beside.specs.Chosen.{chosen}
use Rattle.beside.specs.Beside.{joint_codes, beside}
use Rattle.beside.specs.Partner.{Partners, FirstMatched, SecondMatched}
use Rattle.chart.proofs.Rising.{rising_few}
use Rattle.beside.proofs.Chosen.{chosen_all}
use Rattle.beside.proofs.Codes.{joint_members, joint_rising}
use Rattle.beside.proofs.Formed.{fine_exactly}
use Rattle.beside.proofs.Steps.{targets_below}
use Rattle.beside.proofs.Reading.{read_two_lem}
use Rattle.compare.specs.Comparison.{longest_comparison, Alone}
use Rattle.compare.proofs.Compared.{all_alone, comparison_by}
use Rattle.compare.proofs.Determined.{alone_unique}
use Rattle.compare.proofs.Found.{listed_length}
use Rattle.longest.specs.Header.{Reaches}
use Rattle.longest.specs.Longest.{loop, loop_chart, rest_chart}
use Rattle.longest.proofs.Longest.{counted_length, counted_member}

-- ---- the two charts

pub loop_formed : WellFormed loop_chart
unfolding Rising
loop_formed =
    record {
      states_some = omega arith;
      states_few = omega arith;
      modes_bytes = λ x l. omega (arith, only_one l);
      actions_few = omega arith;
      codes_bytes = λ x l. omega (arith, only_one l);
      codes_rise = tt;
      transitions_few = omega arith;
      steps_in = λ s l. rw (only_one l) (record { source_in = omega arith; action_in = omega arith; target_in = omega arith });
      steps_rise = tt;
    }

rest_states : states rest_chart ≡ 63
rest_states = counted_length (λ i. i) 0 63

pub rest_formed : WellFormed rest_chart
unfolding Rising
rest_formed =
    let n = rest_states in
    record {
      states_some = omega arith;
      states_few = omega arith;
      modes_bytes = λ x l. (let r = counted_member (λ i. i) 0 63 l in omega (arith, r.1, r.2));
      actions_few = omega arith;
      codes_bytes = λ x l. absurd (not-nil l);
      codes_rise = tt;
      transitions_few = omega arith;
      steps_in = λ s l. absurd (not-nil l);
      steps_rise = tt;
    }

-- ---- what their comparison lists

-- the step of the first is matched by none of the second
no_partner : (p q : ℕ) → Partners loop_chart rest_chart p q → ⊥
no_partner p q r = not-nil (r.matching.0.forth p q r.related loop (here refl) (omega (arith, r.of_first))).1

first_alone : Alone (states loop_chart) (FirstMatched loop_chart rest_chart) (chosen (λ p. true) (states loop_chart))
first_alone = all_alone _ _ (λ p h. no_partner p h.0 h.1)

second_alone : Alone (states rest_chart) (SecondMatched loop_chart rest_chart) (chosen (λ p. true) (states rest_chart))
second_alone = all_alone _ _ (λ q h. no_partner h.0 q h.1)

-- one code is declared
codes_few : length (joint_codes loop_chart rest_chart) ≤ 1
codes_few = rising_few 0 1 _ (joint_rising loop_chart rest_chart) (λ x m. (omega arith, ⊎_elim (λ l. omega (arith, only_one l)) (λ l. absurd (not-nil l)) ((joint_members loop_chart rest_chart loop_formed.codes_bytes rest_formed.codes_bytes x).0 m)))

pub comparison_reached : Reaches (encode loop_chart) (encode rest_chart) longest_comparison
comparison_reached =
    let n = rest_states in
    let a = encoded_reads (encode loop_chart) loop_chart refl loop_formed in
    let b = encoded_reads (encode rest_chart) rest_chart refl rest_formed in
    let m = mark_is (states loop_chart + states rest_chart) (beside loop_chart rest_chart).steps (targets_below loop_chart rest_chart loop_formed rest_formed) 0 (states loop_chart) (omega arith) (omega arith) in
    let r = near_rounds (states loop_chart + states rest_chart) (beside loop_chart rest_chart).steps (omega arith) in
    record {
      c = loop_chart;
      d = rest_chart;
      read = read_two_lem _ _ loop_chart rest_chart (record {
        a = shape_of loop_chart;
        b = shape_of rest_chart;
        first_read = a.0;
        second_read = b.0;
        first_is = a.1;
        second_is = b.1;
        fine = (fine_exactly loop_chart rest_chart).1 (omega arith, omega (arith, codes_few), omega arith);
      });
      some = (m.0, _, _, r.0, comparison_by loop_chart rest_chart loop_formed rest_formed m.1 r.2 first_alone second_alone);
      each = λ mark first second rounds w.
          omega (
            arith,
            listed_length mark first second,
            ap length (alone_unique _ _ _ _ w.first_alone first_alone),
            ap length (alone_unique _ _ _ _ w.second_alone second_alone),
            chosen_all (states loop_chart),
            chosen_all (states rest_chart),
          );
    }
