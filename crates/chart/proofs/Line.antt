-- 6 and 7 tell the line exactly: a chart is refused so just where this byte is out of range, or this triple not greater than the one before, and
-- nothing before is at fault.
use Prim.Native.Nat.{ℕ, zero, suc, ◌+◌, ◌-◌, ◌<◌}
use mathlib.Core.Path.{◌≡◌, refl}
use mathlib.Core.List.{List}
use mathlib.Core.Logic.{◌↔◌}
use native.Mathlib.Omega.{arith}
use borrow.Author.Tests.{lt-leb, le-ltb, lt-ltb, ne_eqb}
use lib.ListN.{length, get_or}
use Rattle.refusal.specs.Refusal.{chart_refusal}
use Rattle.refusal.specs.declared.Refusal.{Refusal}
use Rattle.chart.specs.Reading.{judge_triple, judge_triples, read_transitions, read_actions, read_chart}
use Rattle.chart.specs.Fault.{states_in, actions_in, transitions_in, triple_at, FineBefore, OutOfRange, NotGreater}
use Rattle.chart.proofs.Judging.{CodesIn, fine_codes, first_bad, rises_code, not_earlier}
use Rattle.chart.proofs.Accepted.{steps_fine}
use Rattle.chart.proofs.Refused.{tells_the_byte, tells_the_triple}
use Rattle.std.specs.Prelude.{Err}

module _ (s : List ℕ) where
  -- where nothing before the triples is at fault, their own first fault is the chart's
  triples_refused : (k : ℕ) (r : Refusal) → FineBefore s k → 3 + states_in s + actions_in s < length s
      → judge_triples s (states_in s) (actions_in s) (4 + states_in s + actions_in s) 0 (transitions_in s) ≡ Err r → read_chart s ≡ Err r
  unfolding read_chart read_actions read_transitions
  triples_refused k r F long bad =
      let p₁ : 1 + states_in s + 1 ≡ 2 + states_in s = omega arith in
      let p₂ : 2 + states_in s + actions_in s + 1 ≡ 3 + states_in s + actions_in s = omega arith in
      let p₃ : 2 + states_in s + actions_in s + 2 ≡ 4 + states_in s + actions_in s = omega arith in
      let codes : CodesIn s (2 + states_in s) 0 (actions_in s) = λ j l. (omega arith, rises_code s (2 + states_in s) (actions_in s) F.codes_rise j l) in
      rw (
        lt-leb (length s) 0 (omega arith),
        le-ltb (states_in s) 1 F.states_some,
        le-ltb 64 (states_in s) F.states_few,
        lt-leb (length s) (states_in s) (omega arith),
        lt-leb (length s) (1 + states_in s) (omega arith),
        le-ltb 32 (actions_in s) F.actions_few,
        p₁,
        fine_codes s (2 + states_in s) 0 (actions_in s) codes,
        p₂,
        p₃,
        lt-leb (length s) (2 + states_in s + actions_in s) (omega arith),
        lt-leb (length s) (3 + states_in s + actions_in s) (omega arith),
        le-ltb 1024 (transitions_in s) F.transitions_few,
        bad,
      )

  -- so is the first triple that is not judged fine
  triple_refused : (i : ℕ) (r : Refusal) → i < transitions_in s → FineBefore s i → triple_at s i < length s
      → judge_triple s (states_in s) (actions_in s) (triple_at s i) i ≡ Err r → read_chart s ≡ Err r
  triple_refused i r few F there bad =
      let z : 0 + i ≡ i = omega arith in
      triples_refused i r F (omega arith)
      (first_bad s (states_in s) (actions_in s) (4 + states_in s + actions_in s) 0 (transitions_in s) i r few
      (steps_fine s (states_in s) (actions_in s) (4 + states_in s + actions_in s) i (omega arith) F.in_range F.rising) (rw z bad))

  source_fine : (i byte : ℕ) → OutOfRange s i byte → 0 < byte → get_or s (triple_at s i) 0 < states_in s
  source_fine i byte f l = let q : triple_at s i + 0 ≡ triple_at s i = omega arith in rw q at (f.bytes_before 0 l)

  -- the byte that is out of range is judged so, and so is the triple that is not greater
  byte_bad : (i byte : ℕ) → OutOfRange s i byte → judge_triple s (states_in s) (actions_in s) (triple_at s i) i ≡ Err (chart_refusal 6 i byte)
  byte_bad i zero f =
      let q : triple_at s i + 0 ≡ triple_at s i = omega arith in
      rw (lt-leb (length s) (triple_at s i) (omega (arith, f.there)), le-ltb (get_or s (triple_at s i) 0) (states_in s) (rw q at f.out_of_range))
  byte_bad i (suc zero) f =
      rw (
        lt-leb (length s) (triple_at s i) (omega (arith, f.there)),
        lt-ltb (get_or s (triple_at s i) 0) (states_in s) (source_fine i 1 f (omega arith)),
        lt-leb (length s) (triple_at s i + 1) f.there,
        le-ltb (get_or s (triple_at s i + 1) 0) (actions_in s) f.out_of_range,
      )
  byte_bad i (suc (suc zero)) f =
      rw (
        lt-leb (length s) (triple_at s i) (omega (arith, f.there)),
        lt-ltb (get_or s (triple_at s i) 0) (states_in s) (source_fine i 2 f (omega arith)),
        lt-leb (length s) (triple_at s i + 1) (omega (arith, f.there)),
        lt-ltb (get_or s (triple_at s i + 1) 0) (actions_in s) (f.bytes_before 1 (omega arith)),
        lt-leb (length s) (triple_at s i + 2) f.there,
        le-ltb (get_or s (triple_at s i + 2) 0) (states_in s) f.out_of_range,
      )
  byte_bad i (suc (suc (suc k))) f = absurd (omega (arith, f.byte_few))

  order_bad : (i : ℕ) → NotGreater s i → judge_triple s (states_in s) (actions_in s) (triple_at s i) i ≡ Err (chart_refusal 7 i 0)
  order_bad i f =
      let q : triple_at s i - 3 ≡ triple_at s (i - 1) = omega (arith, f.not_first) in
      let there = f.there in
      rw (
        lt-leb (length s) (triple_at s i) (omega arith),
        lt-ltb _ _ f.in_range.source_in,
        lt-leb (length s) (triple_at s i + 1) (omega arith),
        lt-ltb _ _ f.in_range.action_in,
        lt-leb (length s) (triple_at s i + 2) there,
        lt-ltb _ _ f.in_range.target_in,
        ne_eqb i 0 (λ e. omega (arith, f.not_first)),
        q,
        not_earlier _ _ f.not_greater,
      )

  pub six_exactly : (i byte : ℕ) → (read_chart s ≡ Err (chart_refusal 6 i byte)) ↔ OutOfRange s i byte
  six_exactly i byte = (λ e. tells_the_byte s (chart_refusal 6 i byte) e refl, λ f. triple_refused i (chart_refusal 6 i byte) f.triple_few f.fine_before (omega (arith, f.there)) (byte_bad i byte f))

  pub seven_exactly : (i : ℕ) → (read_chart s ≡ Err (chart_refusal 7 i 0)) ↔ NotGreater s i
  seven_exactly i = (λ e. tells_the_triple s (chart_refusal 7 i 0) e refl, λ f. triple_refused i (chart_refusal 7 i 0) f.triple_few f.fine_before (omega (arith, f.there)) (order_bad i f))
