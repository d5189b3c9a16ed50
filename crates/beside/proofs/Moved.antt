-- The steps of a chart, their actions found among codes that have all of the chart's own, their states numbered from `shift` on: each bears the code
-- that it bore, no two actions become one, and the order stays. Assumes nothing.
use Prim.Native.Nat.{ℕ, ◌+◌, ◌≤◌, ◌<◌}
use mathlib.Core.Path.{◌≡◌, ap}
use mathlib.Core.List.{List, Memᴰ as Mem}
use mathlib.Core.Logic.{inl, inr}
use native.Mathlib.Omega.{arith}
use lib.ListN.{length, get_or}
use Rattle.chart.specs.Chart.{Step, Chart, states}
use Rattle.chart.specs.Layout.{Rising, Earlier, StepIn, WellFormed}
use Rattle.beside.specs.Beside.{index_of, moved, moved_steps}
use Rattle.beside.specs.Partner.{code_of}
use Rattle.chart.proofs.Rising.{rising_map, place_member, rising_place}
use Rattle.beside.proofs.Codes.{index_in, index_code, index_same, index_rising}

module _ (c : Chart) (formed : WellFormed c) where
  code_member : (t : Step) → Mem t c.steps → Mem (code_of c t) c.codes
  code_member t m = place_member c.codes t.action (formed.steps_in t m).action_in

  code_action : (t u : Step) → Mem t c.steps → Mem u c.steps → code_of c t ≡ code_of c u → t.action ≡ u.action
  code_action t u m k e =
      let a : t.action < u.action → ⊥ = λ h. omega (arith, rising_place c.codes formed.codes_rise t.action u.action h (formed.steps_in u k).action_in) in
      let b : u.action < t.action → ⊥ = λ h. omega (arith, rising_place c.codes formed.codes_rise u.action t.action h (formed.steps_in t m).action_in) in
      omega arith

  module _ (codes : List ℕ) (all : (x : ℕ) → Mem x c.codes → Mem x codes) where
    pub code_among : (t : Step) → Mem t c.steps → Mem (code_of c t) codes
    code_among t m = all (code_of c t) (code_member t m)

    module _ (shift : ℕ) where
      pub moved_code : (t : Step) → Mem t c.steps → get_or codes (moved c codes shift t).action 0 ≡ code_of c t
      moved_code t m = index_code (code_of c t) codes (code_among t m)

      pub moved_action : (t u : Step) → Mem t c.steps → Mem u c.steps → (moved c codes shift t).action ≡ (moved c codes shift u).action → t.action ≡ u.action
      moved_action t u m k e = code_action t u m k (index_same (code_of c t) (code_of c u) codes (code_among t m) (code_among u k) e)

      pub moved_in : (n : ℕ) → shift + states c ≤ n → (t : Step) → Mem t c.steps → StepIn n (length codes) (moved c codes shift t)
      moved_in n h t m =
          record {
            source_in = omega (arith, (formed.steps_in t m).source_in);
            action_in = index_in (code_of c t) codes (code_among t m);
            target_in = omega (arith, (formed.steps_in t m).target_in);
          }

      moved_earlier : Rising ◌<◌ codes → (t u : Step) → Mem t c.steps → Mem u c.steps → Earlier t u → Earlier (moved c codes shift t) (moved c codes shift u)
      moved_earlier r t u m k (inl h) = inl (omega arith)
      moved_earlier r t u m k (inr (e, inl h)) = inr (ap (λ x. shift + x) e, inl (index_rising (code_of c t) (code_of c u) codes r (code_among t m) (code_among u k) (rising_place c.codes formed.codes_rise t.action u.action h (formed.steps_in u k).action_in)))
      moved_earlier r t u m k (inr (e, inr (a, h))) = inr (ap (λ x. shift + x) e, inr (ap (λ x. index_of (get_or c.codes x 0) codes) a, omega arith))

      pub moved_rising : Rising ◌<◌ codes → Rising Earlier (moved_steps c codes shift)
      moved_rising r = rising_map Earlier Earlier (moved c codes shift) c.steps (moved_earlier r) formed.steps_rise
