-- The steps of two charts side by side are the first's and the second's and no others; each bears the code that it bore, and steps of one action are
-- steps of one code. Assumes nothing.
use Prim.Native.Nat.{ℕ, ◌+◌}
use mathlib.Core.Path.{◌≡◌, sym, subst⁻¹}
use mathlib.Core.List.Memᴰ
use mathlib.Core.List.{Memᴰ as Mem}
use mathlib.Core.Logic.{◌⊎◌, inl, inr, ◌↔◌, ⊎_elim}
use native.Mathlib.Omega.{arith}
use lib.ListN.{length}
use Rattle.chart.specs.Chart.{Step, Chart, states}
use Rattle.chart.specs.Layout.{StepIn, WellFormed}
use Rattle.sheet.proofs.Meaning.{TargetsBelow}
use Rattle.beside.specs.Beside.{joint_codes, moved, moved_steps, beside}
use Rattle.beside.specs.Partner.{code_of}
use Rattle.beside.proofs.Codes.{joint_members, index_same}
use Rattle.beside.proofs.Moved.{code_among, moved_code, moved_action, moved_in}

-- u is a step of c, or of d, as it stands side by side
abbrev pub OfFirst : Chart → Chart → Step → Type 0
OfFirst c d u = (t : Step) × Mem t c.steps × (u ≡ moved c (joint_codes c d) 0 t)

abbrev pub OfSecond : Chart → Chart → Step → Type 0
OfSecond c d u = (t : Step) × Mem t d.steps × (u ≡ moved d (joint_codes c d) (states c) t)

module _ (c d : Chart) where
  pub step_first : (t : Step) → Mem t c.steps → Mem (moved c (joint_codes c d) 0 t) (beside c d).steps
  unfolding beside
  step_first t m = Memᴰ.append_left (moved_steps d (joint_codes c d) (states c)) (Memᴰ.map (moved c (joint_codes c d) 0) m)

  pub step_second : (t : Step) → Mem t d.steps → Mem (moved d (joint_codes c d) (states c) t) (beside c d).steps
  unfolding beside
  step_second t m = Memᴰ.append_right (moved_steps c (joint_codes c d) 0) (Memᴰ.map (moved d (joint_codes c d) (states c)) m)

  pub steps_exactly : (u : Step) → Mem u (beside c d).steps ↔ (OfFirst c d u ⊎ OfSecond c d u)
  unfolding beside
  steps_exactly u = (
    λ m. ⊎_elim (λ k. (let r = Memᴰ.of_map (moved c (joint_codes c d) 0) c.steps k in inl (r.0, r.1, sym r.2))) (λ k. (let r = Memᴰ.of_map (moved d (joint_codes c d) (states c)) d.steps k in inr (r.0, r.1, sym r.2))) (Memᴰ.append_cases (moved_steps c (joint_codes c d) 0) m),
    ⊎_elim (λ r. Memᴰ.cast r.2 (step_first r.0 r.1)) (λ r. Memᴰ.cast r.2 (step_second r.0 r.1)),
  )

  module _ (formed_first : WellFormed c) (formed_second : WellFormed d) where
    pub first_joint : (x : ℕ) → Mem x c.codes → Mem x (joint_codes c d)
    first_joint x m = (joint_members c d formed_first.codes_bytes formed_second.codes_bytes x).1 (inl m)

    pub second_joint : (x : ℕ) → Mem x d.codes → Mem x (joint_codes c d)
    second_joint x m = (joint_members c d formed_first.codes_bytes formed_second.codes_bytes x).1 (inr m)

    pub code_kept_first : (t : Step) → Mem t c.steps → code_of (beside c d) (moved c (joint_codes c d) 0 t) ≡ code_of c t
    unfolding beside
    code_kept_first = moved_code c formed_first (joint_codes c d) first_joint 0

    pub code_kept_second : (t : Step) → Mem t d.steps → code_of (beside c d) (moved d (joint_codes c d) (states c) t) ≡ code_of d t
    unfolding beside
    code_kept_second = moved_code d formed_second (joint_codes c d) second_joint (states c)

    -- a step of the first and a step of the second with the same action have the same code; within one chart, the same action
    pub same_code : (t u : Step) → Mem t c.steps → Mem u d.steps → (moved c (joint_codes c d) 0 t).action ≡ (moved d (joint_codes c d) (states c) u).action → code_of c t ≡ code_of d u
    same_code t u m k = index_same (code_of c t) (code_of d u) (joint_codes c d) (code_among c formed_first (joint_codes c d) first_joint t m) (code_among d formed_second (joint_codes c d) second_joint u k)

    pub same_action_first : (t u : Step) → Mem t c.steps → Mem u c.steps → (moved c (joint_codes c d) 0 t).action ≡ (moved c (joint_codes c d) 0 u).action → t.action ≡ u.action
    same_action_first = moved_action c formed_first (joint_codes c d) first_joint 0

    pub same_action_second : (t u : Step) → Mem t d.steps → Mem u d.steps → (moved d (joint_codes c d) (states c) t).action ≡ (moved d (joint_codes c d) (states c) u).action → t.action ≡ u.action
    same_action_second = moved_action d formed_second (joint_codes c d) second_joint (states c)

    pub steps_in : (u : Step) → Mem u (beside c d).steps → StepIn (states c + states d) (length (joint_codes c d)) u
    steps_in u m = elim ((steps_exactly u).0 m) [
      | inl r ↦ subst⁻¹ (StepIn (states c + states d) (length (joint_codes c d))) r.2 (moved_in c formed_first (joint_codes c d) first_joint 0 (states c + states d) (omega arith) r.0 r.1)
      | inr r ↦ subst⁻¹ (StepIn (states c + states d) (length (joint_codes c d))) r.2 (moved_in d formed_second (joint_codes c d) second_joint (states c) (states c + states d) (omega arith) r.0 r.1)
    ]

    pub targets_below : TargetsBelow (states c + states d) (beside c d).steps
    targets_below u m = (steps_in u m).target_in
