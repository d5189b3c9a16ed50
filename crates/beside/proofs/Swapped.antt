-- The order of two charts side by side does not matter: to the marks between them, to the rounds, or to what is wrong with them together. Assumes
-- nothing.
use Prim.Native.Nat.{ℕ, ◌+◌, ◌-◌, ◌<◌}
use mathlib.Core.Path.{◌≡◌, refl, ap, sym, ◌∙◌}
use mathlib.Core.List.Memᴰ
use mathlib.Core.List.{Memᴰ as Mem}
use mathlib.Core.Logic.{◌⊎◌, inl, inr, ◌↔◌, ⊎_elim}
use native.Mathlib.Nat.{add_comm, zero-add}
use native.Mathlib.Decide.{dec_le}
use native.Mathlib.Omega.{arith}
use lib.Dec.{ltb}
use borrow.Author.Tests.{lt-ltb, le-ltb}
use Rattle.settle.specs.Test.{pick}
use Rattle.settle.specs.Finite.{pairs}
use Rattle.settle.specs.Chain.{Rounds}
use Rattle.chart.specs.Chart.{Step, Chart, states, transitions}
use Rattle.chart.specs.Layout.{WellFormed}
use Rattle.nearness.specs.Relation.{Near}
use Rattle.nearness.specs.Mark.{Mark}
use Rattle.nearness.specs.Carried.{Carries}
use Rattle.nearness.proofs.Mark.{mark_turned}
use Rattle.nearness.proofs.Carried.{mark_carried, rounds_carried}
use Rattle.beside.specs.Beside.{index_of, joint_codes, moved, beside, judge_together}
use Rattle.beside.specs.Partner.{code_of}
use Rattle.beside.proofs.Codes.{joint_swapped}
use Rattle.beside.proofs.Steps.{step_first, step_second, steps_exactly, targets_below}

-- ---- where a state of two charts, of n and m states, stands when they are swapped

swap : ℕ → ℕ → ℕ → ℕ
swap n m x = pick (ltb x n) (m + x) (x - n)

module _ (n m : ℕ) where
  swap_first : (x : ℕ) → x < n → swap n m x ≡ m + x
  unfolding swap
  swap_first x h = rw (lt-ltb x n h)

  swap_second : (x : ℕ) → swap n m (n + x) ≡ x
  unfolding swap
  swap_second x = rw (le-ltb (n + x) n (omega arith)) (omega arith)

  -- of the first, or of the second
  side : (x : ℕ) → x < n + m → (x < n) ⊎ ((y : ℕ) × (y < m) × (x ≡ n + y))
  side x h = elim (dec_le n x) [ yes l ↦ inr (x - n, omega arith, omega arith) | no f ↦ inl (omega arith) ]

module _ (n m x : ℕ) (x_in : x < n + m) where
  swap_twice : swap m n (swap n m x) ≡ x
  swap_twice = elim (side n m x x_in) [ inl l ↦ rw (swap_first n m x l) (swap_second m n x) | inr (y, l, e) ↦ rw (e, swap_second n m y) (swap_first m n y l) ]

  swap_in : swap n m x < m + n
  swap_in = elim (side n m x x_in) [ inl l ↦ omega (arith, swap_first n m x l) | inr (y, l, e) ↦ rw e (omega (arith, swap_second n m y)) ]

abbrev swapped : ℕ → ℕ → Step → Step
swapped n m t = record { source = swap n m t.source; action = t.action; target = swap n m t.target }

-- ---- the steps

module _ (c d : Chart) (formed_first : WellFormed c) where
  first_swapped : (s : Step) → Mem s c.steps → swapped (states c) (states d) (moved c (joint_codes c d) 0 s) ≡ moved c (joint_codes d c) (states d) s
  first_swapped s k =
      let a : swap (states c) (states d) (0 + s.source) ≡ states d + s.source = rw (zero-add s.source) (swap_first (states c) (states d) s.source (formed_first.steps_in s k).source_in) in
      let b : swap (states c) (states d) (0 + s.target) ≡ states d + s.target = rw (zero-add s.target) (swap_first (states c) (states d) s.target (formed_first.steps_in s k).target_in) in
      λ i. record { source = a i; action = index_of (code_of c s) (joint_swapped c d i); target = b i }

  second_swapped : (s : Step) → swapped (states c) (states d) (moved d (joint_codes c d) (states c) s) ≡ moved d (joint_codes d c) 0 s
  second_swapped s =
      let a : swap (states c) (states d) (states c + s.source) ≡ 0 + s.source = rw (zero-add s.source) (swap_second (states c) (states d) s.source) in
      let b : swap (states c) (states d) (states c + s.target) ≡ 0 + s.target = rw (zero-add s.target) (swap_second (states c) (states d) s.target) in
      λ i. record { source = a i; action = index_of (code_of d s) (joint_swapped c d i); target = b i }

  swap_keeps : (t : Step) → Mem t (beside c d).steps → Mem (swapped (states c) (states d) t) (beside d c).steps
  swap_keeps t m = ⊎_elim (λ (s, k, e). Memᴰ.cast (ap (swapped (states c) (states d)) e ∙ first_swapped s k) (step_second d c s k)) (λ (s, k, e). Memᴰ.cast (ap (swapped (states c) (states d)) e ∙ second_swapped s) (step_first d c s k)) ((steps_exactly c d t).0 m)

-- ---- the marks and the rounds

module _ (c d : Chart) (formed_first : WellFormed c) (formed_second : WellFormed d) where
  swap_carries : Carries (states c + states d) (beside c d).steps (beside d c).steps (swap (states c) (states d)) (λ a. a)
  swap_carries =
      record {
        keeps = swap_keeps c d formed_first;
        reflects = λ p h u m e. (
            let back = targets_below d c formed_second formed_first u m in
            (swapped (states d) (states c) u, swap_keeps d c formed_second u m, ap (swap (states d) (states c)) e ∙ swap_twice (states c) (states d) p h, refl, sym (swap_twice (states d) (states c) u.target back)));
        one_to_one = λ t u m k e. e;
      }

  pub mark_swapped : (p q : ℕ) → p < states c → q < states d → (k : ℕ) → Mark (beside c d).steps p (states c + q) k ↔ Mark (beside d c).steps q (states d + p) k
  mark_swapped p q h i k =
      let a = mark_carried (states c + states d) (beside c d).steps (beside d c).steps _ _ (targets_below c d formed_first formed_second) swap_carries p (states c + q) (omega arith) (omega arith) k in
      let b = rw (swap_first (states c) (states d) p h, swap_second (states c) (states d) q) at a in
      (λ m. mark_turned (beside d c).steps (states d + p) q k (b.0 m), λ m. b.1 (mark_turned (beside d c).steps q (states d + p) k m))

  pub rounds_swapped : (k : ℕ) → Rounds (pairs (states c + states d)) (Near (beside c d).steps) k ↔ Rounds (pairs (states d + states c)) (Near (beside d c).steps) k
  rounds_swapped = rounds_carried (states c + states d) (beside c d).steps (beside d c).steps _ _ (targets_below c d formed_first formed_second) swap_carries (states d + states c) (swap_in (states c) (states d)) (λ y h. (swap (states d) (states c) y, swap_in (states d) (states c) y h, swap_twice (states d) (states c) y h))

-- ---- what is wrong with them together

pub judge_swapped : (c d : Chart) → judge_together c d ≡ judge_together d c
judge_swapped c d = rw (add_comm (states c) (states d), joint_swapped c d, add_comm (transitions c) (transitions d))
