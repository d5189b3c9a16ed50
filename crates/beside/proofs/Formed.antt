-- Two charts side by side are a chart exactly where none of 18, 19 and 20 is given: where they are not too many states, codes or transitions. Assumes
-- nothing.
use Prim.Native.Nat.{ℕ, ◌+◌, ◌≤◌}
use mathlib.Core.Path.{◌≡◌, refl}
use mathlib.Core.Bool.{Bool, true, false}
use mathlib.Core.List.Memᴰ
use mathlib.Core.List.{Memᴰ as Mem}
use mathlib.Core.Logic.{inl, ◌↔◌, ⊎_elim}
use native.Mathlib.Omega.{arith}
use lib.ListN.{length, length-append, length-map}
use lib.Dec.{ltb}
use borrow.Author.Tests.{le-ltb, ltb-false}
use Rattle.settle.specs.Test.{pick}
use Rattle.refusal.specs.declared.Refusal.{Refusal}
use Rattle.chart.specs.Chart.{Step, Chart, states, transitions}
use Rattle.chart.specs.Layout.{Earlier, Rising, Bytes, WellFormed}
use Rattle.beside.specs.Beside.{joint_codes, moved, moved_steps, beside, judge_together}
use Rattle.chart.proofs.Rising.{rising_append}
use Rattle.beside.proofs.Codes.{joint_members, joint_rising}
use Rattle.beside.proofs.Moved.{moved_rising}
use Rattle.beside.proofs.Steps.{first_joint, second_joint, steps_in}
use Rattle.std.specs.Prelude.{Err}
use Rattle.chart.specs.Reading.{Judged}
use Rattle.chart.specs.Reading.{faultless}

module _ (c d : Chart) where
  -- ---- how many there are

  pub states_together : states (beside c d) ≡ states c + states d
  unfolding beside
  states_together = length-append c.modes d.modes

  pub transitions_together : transitions (beside c d) ≡ transitions c + transitions d
  unfolding beside
  transitions_together = omega (arith, length-append (moved_steps c (joint_codes c d) 0) (moved_steps d (joint_codes c d) (states c)), length-map c.steps (moved c (joint_codes c d) 0), length-map d.steps (moved d (joint_codes c d) (states c)))

  -- ---- none of the three is given

  pub fine_exactly : (judge_together c d ≡ faultless) ↔ ((states c + states d ≤ 64) × (length (joint_codes c d) ≤ 32) × (transitions c + transitions d ≤ 1024))
  fine_exactly = (
    λ e. (let a = fits 64 (states c + states d) _ _ e in let b = fits 32 (length (joint_codes c d)) _ _ a.1 in (a.0, b.0, (fits 1024 (transitions c + transitions d) _ _ b.1).0)),
    λ h. rw (le-ltb 64 (states c + states d) h.0, le-ltb 32 (length (joint_codes c d)) h.1, le-ltb 1024 (transitions c + transitions d) h.2),
  )
    where
      within : (b : Bool) (r : Refusal) (rest : Judged) → pick b (Err r) rest ≡ faultless → (b ≡ false) × (rest ≡ faultless)
      within true r rest e = let z : ◌≡◌ {A = ℕ} 0 1 = cc in absurd (omega arith)
      within false r rest e = (refl, e)

      fits : (most n : ℕ) (r : Refusal) (rest : Judged) → pick (ltb most n) (Err r) rest ≡ faultless → (n ≤ most) × (rest ≡ faultless)
      fits most n r rest e = let a = within (ltb most n) r rest e in (ltb-false most n a.0, a.1)

  -- ---- well formed

  module _ (formed_first : WellFormed c) (formed_second : WellFormed d) where
    modes_bytes : Bytes (beside c d).modes
    unfolding beside
    modes_bytes x m = ⊎_elim (formed_first.modes_bytes x) (formed_second.modes_bytes x) (Memᴰ.append_cases c.modes m)

    codes_bytes : Bytes (joint_codes c d)
    codes_bytes x m = ⊎_elim (formed_first.codes_bytes x) (formed_second.codes_bytes x) ((joint_members c d formed_first.codes_bytes formed_second.codes_bytes x).0 m)

    -- the first's steps in their order, then the second's, whose sources are greater
    steps_rise : Rising Earlier (beside c d).steps
    unfolding beside
    steps_rise = rising_append Earlier (moved_steps c (joint_codes c d) 0) (moved_steps d (joint_codes c d) (states c)) (moved_rising c formed_first (joint_codes c d) (first_joint c d formed_first formed_second) 0 (joint_rising c d)) (moved_rising d formed_second (joint_codes c d) (second_joint c d formed_first formed_second) (states c) (joint_rising c d)) before
      where
        before : (t u : Step) → Mem t (moved_steps c (joint_codes c d) 0) → Mem u (moved_steps d (joint_codes c d) (states c)) → Earlier t u
        before t u m k =
            let a = Memᴰ.of_map (moved c (joint_codes c d) 0) c.steps m in
            let b = Memᴰ.of_map (moved d (joint_codes c d) (states c)) d.steps k in
            let s : 0 + a.0.source ≡ t.source = cc in
            let r : states c + b.0.source ≡ u.source = cc in
            inl (omega (arith, (formed_first.steps_in a.0 a.1).source_in))

    pub well_formed_exactly : WellFormed (beside c d) ↔ (judge_together c d ≡ faultless)
    unfolding beside
    well_formed_exactly = (forth, back)
      where
        forth : WellFormed (beside c d) → judge_together c d ≡ faultless
        forth F = fine_exactly.1 (omega (arith, F.states_few, states_together), F.actions_few, omega (arith, F.transitions_few, transitions_together))

        back : judge_together c d ≡ faultless → WellFormed (beside c d)
        back e =
            let h = fine_exactly.0 e in
            record {
              states_some = omega (arith, states_together, formed_first.states_some);
              states_few = omega (arith, states_together, h.0);
              modes_bytes = modes_bytes;
              actions_few = h.1;
              codes_bytes = codes_bytes;
              codes_rise = joint_rising c d;
              transitions_few = omega (arith, transitions_together, h.2);
              steps_in = λ u m. rw states_together (steps_in c d formed_first formed_second u m);
              steps_rise = steps_rise;
            }
