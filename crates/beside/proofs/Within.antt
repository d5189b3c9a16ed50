-- Two states of one chart bear the mark that they bear side by side with another chart. Assumes nothing.
use Prim.Native.Nat.{ℕ, ◌+◌, ◌<◌}
use mathlib.Core.Path.{◌≡◌, ap}
use mathlib.Core.List.{List, Memᴰ as Mem}
use mathlib.Core.Logic.{◌⊎◌, inl, inr, ◌↔◌}
use native.Mathlib.Nat.{zero-add}
use native.Mathlib.Omega.{arith}
use lib.ListN.{get_or}
use Rattle.chart.specs.Chart.{Step, Chart, states}
use Rattle.chart.specs.Layout.{WellFormed}
use Rattle.nearness.specs.Mark.{Mark}
use Rattle.nearness.specs.Carried.{Carries}
use Rattle.nearness.proofs.Carried.{mark_carried}
use Rattle.beside.specs.Beside.{joint_codes, index_of, beside}
use Rattle.beside.proofs.Steps.{OfFirst, OfSecond, step_first, step_second, steps_exactly, same_action_first, same_action_second}

-- the action of a chart's action among these codes
abbrev pub action_among : List ℕ → Chart → ℕ → ℕ
action_among codes c a = index_of (get_or c.codes a 0) codes

module _ (c d : Chart) (formed_first : WellFormed c) (formed_second : WellFormed d) where
  pub carries_first : Carries (states c) c.steps (beside c d).steps (λ x. 0 + x) (action_among (joint_codes c d) c)
  carries_first = record { keeps = step_first c d; reflects = λ p h u m e. back p h u e ((steps_exactly c d u).0 m); one_to_one = same_action_first c d formed_first formed_second }
    where
      back : (p : ℕ) → p < states c → (u : Step) → u.source ≡ 0 + p → OfFirst c d u ⊎ OfSecond c d u
          → (t : Step) × Mem t c.steps × (t.source ≡ p) × (u.action ≡ action_among (joint_codes c d) c t.action) × (u.target ≡ 0 + t.target)
      back p h u e (inl (t, m, f)) = (t, m, omega (arith, ap (λ s. s.source) f), ap (λ s. s.action) f, ap (λ s. s.target) f)
      back p h u e (inr (t, m, f)) = absurd (omega (arith, ap (λ s. s.source) f))

  pub carries_second : Carries (states d) d.steps (beside c d).steps (λ x. states c + x) (action_among (joint_codes c d) d)
  carries_second = record { keeps = step_second c d; reflects = λ p h u m e. back p h u e ((steps_exactly c d u).0 m); one_to_one = same_action_second c d formed_first formed_second }
    where
      back : (p : ℕ) → p < states d → (u : Step) → u.source ≡ states c + p → OfFirst c d u ⊎ OfSecond c d u
          → (t : Step) × Mem t d.steps × (t.source ≡ p) × (u.action ≡ action_among (joint_codes c d) d t.action) × (u.target ≡ states c + t.target)
      back p h u e (inl (t, m, f)) = absurd (omega (arith, ap (λ s. s.source) f, (formed_first.steps_in t m).source_in))
      back p h u e (inr (t, m, f)) = (t, m, omega (arith, ap (λ s. s.source) f), ap (λ s. s.action) f, ap (λ s. s.target) f)

  pub marks_within_first : (p q : ℕ) → p < states c → q < states c → (k : ℕ) → Mark c.steps p q k ↔ Mark (beside c d).steps p q k
  marks_within_first p q h i k = rw (zero-add p, zero-add q) at (mark_carried (states c) c.steps (beside c d).steps _ _ (λ t m. (formed_first.steps_in t m).target_in) carries_first p q h i k)

  pub marks_within_second : (p q : ℕ) → p < states d → q < states d → (k : ℕ) → Mark d.steps p q k ↔ Mark (beside c d).steps (states c + p) (states c + q) k
  marks_within_second p q h i k = mark_carried (states d) d.steps (beside c d).steps _ _ (λ t m. (formed_second.steps_in t m).target_in) carries_second p q h i k
