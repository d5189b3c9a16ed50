-- Every refusal of a chart names the chart, has a number from 1 to 8, a place not past the longest chart and a byte that is 0 but in 6; and what
-- its number says is wrong there.
use Prim.Native.Nat.{ℕ, zero, suc, ◌+◌, ◌-◌, ◌*◌, ◌<◌, ◌≤◌}
use mathlib.Core.Path.{◌≡◌, refl, sym, ◌∙◌}
use mathlib.Core.Bool.{Bool, true, false}
use mathlib.Core.List.{List}
use mathlib.Core.Logic.{◌⊎◌, inl, inr}
use native.Mathlib.Omega.{arith}
use native.Mathlib.Decide.{dec_lt}
use lib.ListN.{length, get_or}
use lib.Dec.{ltb, leb, eqb}
use borrow.Author.Tests.{leb-true, ltb-true, ltb-false, eqb-false}
use Rattle.refusal.specs.declared.Input.TheVariants as Input
use Rattle.refusal.specs.declared.Refusal.{Refusal}
use Rattle.settle.specs.Test.{pick}
use Rattle.settle.proofs.Test.{never}
use Rattle.refusal.specs.Refusal.{chart_refusal}
use Rattle.chart.specs.Layout.{longest_chart, Earlier, StepIn}
use Rattle.chart.specs.Reading.{step_at, and_then, presence, code_order, judge_codes, judge_byte, earlier, triple_order, judge_triple, judge_triples, and_then, read_transitions, read_actions, read_chart}
use Rattle.chart.specs.Fault.{states_in, actions_in, transitions_in, triple_at, triple_in, bound_of, FineBefore, OutOfRange, NotGreater, AtFault, absent, states, actions, code, transitions, range, order, left_over, fault_at}
use Rattle.chart.specs.declared.Shape.{Shape}
use Rattle.chart.proofs.Reading.{present, byte_fine, triple_fine}
use Rattle.chart.proofs.Judging.{CodesIn, codes_fine, code_rises, is_earlier, triple_rises}
use Rattle.std.specs.Prelude.{Result, Ok, Err}
use Rattle.chart.specs.Reading.{Judged}
use Rattle.chart.specs.Reading.{faultless}

pub record Placed (s : List ℕ) (r : Refusal) : Type 0 where
  pub of_chart : r.input ≡ Input.Chart
  pub number_some : 1 ≤ r.number
  pub number_few : r.number ≤ 8
  pub place_few : r.place ≤ longest_chart
  pub byte_few : r.byte < 3
  pub byte_but_in_6 : (r.number ≡ 6 → ⊥) → r.byte ≡ 0
  pub absent_at : r.number ≡ 1 → r.place ≡ length s
  pub here : (r.number ≡ 1 → ⊥) → fault_at s r.number r.place r.byte < length s
  pub at_fault : AtFault s r.number r.place r.byte

-- what stands at fault, by its number: the byte is 0 but in 6, and 6 and 7 tell the triple
told : (s : List ℕ) (number place byte : ℕ) → AtFault s number place byte
    → (byte < 3) × ((number ≡ 6 → ⊥) → byte ≡ 0) × (number ≡ 6 → OutOfRange s place byte) × (number ≡ 7 → NotGreater s place)
told s number place byte (absent n z _) = (omega arith, λ _. z, λ e. absurd (omega arith), λ e. absurd (omega arith))
told s number place byte (states n z _ _) = (omega arith, λ _. z, λ e. absurd (omega arith), λ e. absurd (omega arith))
told s number place byte (actions n z _ _) = (omega arith, λ _. z, λ e. absurd (omega arith), λ e. absurd (omega arith))
told s number place byte (code n z _ _ _) = (omega arith, λ _. z, λ e. absurd (omega arith), λ e. absurd (omega arith))
told s number place byte (transitions n z _ _) = (omega arith, λ _. z, λ e. absurd (omega arith), λ e. absurd (omega arith))
told s number place byte (range n f) = (f.byte_few, λ g. absurd (g n), λ _. f, λ e. absurd (omega arith))
told s number place byte (order n z f) = (omega arith, λ _. z, λ e. absurd (omega arith), λ _. f)
told s number place byte (left_over n z _ _) = (omega arith, λ _. z, λ e. absurd (omega arith), λ e. absurd (omega arith))

module _ (s : List ℕ) where
  record BadPlaced (a : Judged) : Type 0 where
    where_bad : (r : Refusal) → a ≡ Err r → Placed s r

  record RefusedPlaced (a : Result Shape Refusal) : Type 0 where
    where_refused : (r : Refusal) → a ≡ Err r → Placed s r

  -- a byte that is there is at fault
  placed : (number place byte : ℕ) → 2 ≤ number → number ≤ 8 → place ≤ longest_chart → fault_at s number place byte < length s
      → AtFault s number place byte → Placed s (chart_refusal number place byte)
  placed number place byte h₁ h₂ h₃ here f = record {
    of_chart = refl;
    number_some = omega arith;
    number_few = h₂;
    place_few = h₃;
    byte_few = (told s number place byte f).0;
    byte_but_in_6 = (told s number place byte f).1;
    absent_at = λ e. absurd (omega arith);
    here = λ _. here;
    at_fault = f;
  }

  -- ---- judging

  fine_placed : BadPlaced faultless
  fine_placed = record { where_bad = λ r e. (let z : ◌≡◌ {A = ℕ} 0 1 = cc in absurd (omega arith)) }

  bad_placed : (r : Refusal) → Placed s r → BadPlaced (Err r)
  bad_placed r f = record { where_bad = λ q e. (let z : r ≡ q = cc in rw z at f) }

  then_placed : (a b : Judged) → BadPlaced a → (a ≡ faultless → BadPlaced b) → BadPlaced (and_then a b)
  then_placed (Ok tt) b f g = g refl
  then_placed (Err r) b f g = f

  test_placed : (x : Bool) (a : Judged) → (x ≡ false → BadPlaced a) → BadPlaced (pick x faultless a)
  test_placed true a f = fine_placed
  test_placed false a f = f refl

  presence_placed : (p : ℕ) → p ≤ longest_chart → BadPlaced (presence s p)
  presence_placed p h = go (leb (length s) p) refl
    where
      go : (x : Bool) → leb (length s) p ≡ x → BadPlaced (pick x (Err (chart_refusal 1 (length s) 0)) faultless)
      go true e =
          bad_placed _ (record {
            of_chart = refl;
            number_some = omega arith;
            number_few = omega arith;
            place_few = omega (arith, leb-true (length s) p e);
            byte_few = omega arith;
            byte_but_in_6 = λ _. refl;
            absent_at = λ _. refl;
            here = λ f. absurd (f refl);
            at_fault = absent refl refl refl;
          })
      go false e = fine_placed

  -- the codes from number i on, which stands at p
  codes_placed : (p i left : ℕ) → p ≡ 2 + states_in s + i → i + left ≡ actions_in s → p + left ≤ longest_chart → BadPlaced (judge_codes s p i left)
  unfolding judge_codes
  codes_placed p i zero at all h = fine_placed
  codes_placed p i (suc k) at all h =
      then_placed (presence s p) _ (presence_placed p (omega arith)) (λ e.
      then_placed (code_order s p i) _ (order_placed (present s p e)) (λ _.
      codes_placed (p + 1) (i + 1) k (omega arith) (omega arith) (omega arith)))
    where
      order_placed : p < length s → BadPlaced (code_order s p i)
      order_placed here =
          test_placed (eqb i 0) _ (λ z.
          test_placed (ltb (get_or s (p - 1) 0) (get_or s p 0)) _ (λ e.
          bad_placed _ (placed 4 p 0 (omega arith) (omega arith) (omega arith) here
          (code refl refl (omega (arith, eqb-false i 0 z)) (omega arith) (ltb-false (get_or s (p - 1) 0) (get_or s p 0) e)))))

  -- byte number `byte` of triple number i, after bytes and triples that are fine
  byte_placed : (p bound i byte : ℕ) → p ≡ triple_at s i + byte → bound ≡ bound_of s byte → byte < 3 → p ≤ longest_chart → i < transitions_in s
      → ((k : ℕ) → k < byte → get_or s (triple_at s i + k) 0 < bound_of s k) → FineBefore s i → BadPlaced (judge_byte s p bound i byte)
  byte_placed p bound i byte at is few h some fine before =
      then_placed (presence s p) _ (presence_placed p h) (λ e.
      test_placed (ltb (get_or s p 0) bound) _ (λ z.
      let there : triple_at s i + byte < length s = omega (arith, present s p e) in
      bad_placed _ (placed 6 i byte (omega arith) (omega arith) (omega arith) there
      (range refl (record {
        triple_few = some;
        byte_few = few;
        there = there;
        out_of_range = rw (at, is) at (ltb-false (get_or s p 0) bound z);
        bytes_before = fine;
        fine_before = before;
      })))))

  -- the triples before number i are fine, and so is that one
  one_more : (i : ℕ) → FineBefore s i → judge_triple s (states_in s) (actions_in s) (triple_at s i) i ≡ faultless → FineBefore s (i + 1)
  one_more i before e = record {
    states_some = before.states_some;
    states_few = before.states_few;
    actions_few = before.actions_few;
    codes_rise = before.codes_rise;
    transitions_few = before.transitions_few;
    in_range = in_range;
    rising = rising;
  }
    where
      fine : (triple_at s i + 2 < length s) × StepIn (states_in s) (actions_in s) (triple_in s i) × (triple_order s (triple_at s i) i ≡ faultless)
      fine = triple_fine s (states_in s) (actions_in s) (triple_at s i) i e

      in_range : (j : ℕ) → j < i + 1 → StepIn (states_in s) (actions_in s) (triple_in s j)
      in_range j h = elim (dec_lt j i) [ yes l ↦ before.in_range j l | no l ↦ (let q : j ≡ i = omega arith in rw q fine.1) ]

      rising : (j : ℕ) → j + 1 < i + 1 → Earlier (triple_in s j) (triple_in s (j + 1))
      rising j h = elim (dec_lt (j + 1) i) [
        | yes l ↦ before.rising j l
        | no l ↦
            (let q : i ≡ j + 1 = omega arith in
            let z : 0 + (j + 1) ≡ j + 1 = omega arith in
            triple_rises s (4 + states_in s + actions_in s) j (rw z (rw q at fine.2)))
      ]

  triple_placed : (p i : ℕ) → i < transitions_in s → p ≡ triple_at s i → p + 2 ≤ longest_chart → FineBefore s i → BadPlaced (judge_triple s (states_in s) (actions_in s) p i)
  triple_placed p i some at h before =
      then_placed (judge_byte s p (states_in s) i 0) _ (byte_placed p (states_in s) i 0 (omega arith) refl (omega arith) (omega arith) some (λ k l. absurd (omega arith)) before) (λ e.
      then_placed (judge_byte s (p + 1) (actions_in s) i 1) _ (byte_placed (p + 1) (actions_in s) i 1 (omega arith) refl (omega arith) (omega arith) some (source_fine e) before) (λ f.
      then_placed (judge_byte s (p + 2) (states_in s) i 2) (triple_order s p i) (byte_placed (p + 2) (states_in s) i 2 (omega arith) refl (omega arith) h some (action_fine e f) before) (λ g.
      order_placed (byte_fine s p (states_in s) i 0 e) (byte_fine s (p + 1) (actions_in s) i 1 f) (byte_fine s (p + 2) (states_in s) i 2 g))))
    where
      source_fine : judge_byte s p (states_in s) i 0 ≡ faultless → (k : ℕ) → k < 1 → get_or s (triple_at s i + k) 0 < bound_of s k
      source_fine e k l =
          let z : k ≡ 0 = omega arith in
          let q : triple_at s i + 0 ≡ p = omega arith in
          rw (z, q) (byte_fine s p (states_in s) i 0 e).1

      action_fine : judge_byte s p (states_in s) i 0 ≡ faultless → judge_byte s (p + 1) (actions_in s) i 1 ≡ faultless → (k : ℕ) → k < 2 → get_or s (triple_at s i + k) 0 < bound_of s k
      action_fine e f k l = elim (dec_lt k 1) [
        | yes first ↦ source_fine e k first
        | no other ↦
            (let z : k ≡ 1 = omega arith in
            let q : triple_at s i + 1 ≡ p + 1 = omega arith in
            rw (z, q) (byte_fine s (p + 1) (actions_in s) i 1 f).1)
      ]

      order_placed : (p < length s) × (get_or s p 0 < states_in s) → (p + 1 < length s) × (get_or s (p + 1) 0 < actions_in s) → (p + 2 < length s) × (get_or s (p + 2) 0 < states_in s)
          → BadPlaced (triple_order s p i)
      order_placed a b d =
          test_placed (eqb i 0) _ (λ z.
          test_placed (earlier (step_at s (p - 3)) (step_at s p)) _ (λ e.
          let some' : 0 < i = omega (arith, eqb-false i 0 z) in
          bad_placed _ (placed 7 i 0 (omega arith) (omega arith) (omega arith) (omega (arith, a.0))
          (order refl refl (record {
            not_first = some';
            triple_few = some;
            there = omega (arith, d.0);
            not_greater = λ f. never (sym e ∙ is_earlier _ _ (before_it some' f));
            in_range = rw (sym at) (record { source_in = a.1; action_in = b.1; target_in = d.1 });
            fine_before = before;
          })))))
        where
          before_it : 0 < i → Earlier (triple_in s (i - 1)) (triple_in s i) → Earlier (step_at s (p - 3)) (step_at s p)
          before_it l f =
              let q : p - 3 ≡ triple_at s (i - 1) = omega arith in
              rw (q, at) f

  triples_placed : (p i left : ℕ) → i + left ≡ transitions_in s → p ≡ triple_at s i → p + 3 * left ≤ longest_chart → FineBefore s i
      → BadPlaced (judge_triples s (states_in s) (actions_in s) p i left)
  unfolding judge_triples
  triples_placed p i zero all at h before = fine_placed
  triples_placed p i (suc k) all at h before =
      then_placed _ _ (triple_placed p i (omega arith) at (omega arith) before) (λ e.
      triples_placed (p + 3) (i + 1) k (omega arith) (omega arith) (omega arith) (one_more i before (rw at at e)))

  -- ---- section by section

  chart_placed : (sh : Shape) → RefusedPlaced (Ok sh)
  chart_placed sh = record { where_refused = λ r e. (let z : ◌≡◌ {A = ℕ} 0 1 = cc in absurd (omega arith)) }

  refused_placed : (r : Refusal) → Placed s r → RefusedPlaced (Err r)
  refused_placed r f = record { where_refused = λ q e. (let z : r ≡ q = cc in rw z at f) }

  where_placed : (a : Judged) (k : Result Shape Refusal) → BadPlaced a → (a ≡ faultless → RefusedPlaced k) → RefusedPlaced (and_then a k)
  where_placed (Ok tt) k f g = g refl
  where_placed (Err r) k f g = refused_placed r (f.where_bad r refl)

  past_placed : (x : Bool) (r : Refusal) (k : Result Shape Refusal) → (x ≡ true → Placed s r) → (x ≡ false → RefusedPlaced k)
      → RefusedPlaced (pick x (Err r) k)
  past_placed true r k f g = refused_placed r (f refl)
  past_placed false r k f g = g refl

  transitions_placed : (p : ℕ) → p ≡ 2 + states_in s + actions_in s → 1 ≤ states_in s → states_in s ≤ 64 → actions_in s ≤ 32
      → CodesIn s (2 + states_in s) 0 (actions_in s) → RefusedPlaced (read_transitions s (states_in s) (actions_in s) p)
  unfolding read_transitions
  transitions_placed p at some states_few actions_few codes =
      where_placed (presence s p) _ (presence_placed p (omega arith)) (λ e.
      where_placed (presence s (p + 1)) _ (presence_placed (p + 1) (omega arith)) (λ _.
      past_placed (ltb 1024 (get_or s p 0 + 256 * get_or s (p + 1) 0)) _ _
      (λ z. placed 5 p 0 (omega arith) (omega arith) (omega arith) (present s p e) (transitions refl refl at (omega (arith, count, ltb-true 1024 (get_or s p 0 + 256 * get_or s (p + 1) 0) z))))
      (λ z. few (get_or s p 0 + 256 * get_or s (p + 1) 0) count (ltb-false _ _ z))))
    where
      none : transitions_in s ≤ 1024 → FineBefore s 0
      none l = record {
        states_some = some;
        states_few = states_few;
        actions_few = actions_few;
        codes_rise = λ i h. code_rises s (2 + states_in s) i (codes (i + 1) (omega arith)).1;
        transitions_few = l;
        in_range = λ i l. absurd (omega arith);
        rising = λ i l. absurd (omega arith);
      }

      count : get_or s p 0 + 256 * get_or s (p + 1) 0 ≡ transitions_in s
      count =
          let next : p + 1 ≡ 3 + states_in s + actions_in s = omega arith in
          rw (next, at)

      few : (t : ℕ) → t ≡ transitions_in s → t ≤ 1024
          → RefusedPlaced (and_then (judge_triples s (states_in s) (actions_in s) (p + 2) 0 t) (pick (ltb (p + 2 + 3 * t) (length s)) (Err (chart_refusal 8 (p + 2 + 3 * t) 0)) (Ok (record { n = states_in s; m = actions_in s; t = t }))))
      few t all l =
          where_placed (judge_triples s (states_in s) (actions_in s) (p + 2) 0 t) _ (triples_placed (p + 2) 0 t (omega arith) (omega arith) (omega arith) (none (omega arith))) (λ _.
          past_placed (ltb (p + 2 + 3 * t) (length s)) _ _
          (λ z. let here : p + 2 + 3 * t < length s = ltb-true _ _ z in placed 8 (p + 2 + 3 * t) 0 (omega arith) (omega arith) (omega arith) here (left_over refl refl (omega arith) here))
          (λ _. chart_placed _))

  actions_placed : 1 ≤ states_in s → states_in s ≤ 64 → RefusedPlaced (read_actions s (states_in s) (1 + states_in s))
  unfolding read_actions
  actions_placed some h =
      where_placed (presence s (1 + states_in s)) _ (presence_placed (1 + states_in s) (omega arith)) (λ e.
      past_placed (ltb 32 (actions_in s)) _ _
      (λ z. placed 3 (1 + states_in s) 0 (omega arith) (omega arith) (omega arith) (present s _ e) (actions refl refl refl (ltb-true 32 _ z)))
      (λ z. let l : actions_in s ≤ 32 = ltb-false _ _ z in
      let q : 1 + states_in s + 1 ≡ 2 + states_in s = omega arith in
      where_placed _ _ (codes_placed (1 + states_in s + 1) 0 (actions_in s) (omega arith) (omega arith) (omega arith)) (λ e.
      transitions_placed (1 + states_in s + 1 + actions_in s) (omega arith) some h l (codes_fine s (2 + states_in s) 0 (actions_in s) (rw q at e)))))

  chart_refused : RefusedPlaced (read_chart s)
  unfolding read_chart
  chart_refused =
      where_placed (presence s 0) _ (presence_placed 0 (omega arith)) (λ e.
      past_placed (ltb (states_in s) 1) _ _ (λ z. count (present s 0 e) (inl (omega (arith, ltb-true (states_in s) 1 z)))) (λ y.
      past_placed (ltb 64 (states_in s)) _ _ (λ z. count (present s 0 e) (inr (ltb-true 64 (states_in s) z))) (λ z.
      let l : states_in s ≤ 64 = ltb-false _ _ z in
      where_placed _ _ (presence_placed (states_in s) (omega arith)) (λ _. actions_placed (ltb-false _ _ y) l))))
    where
      count : 0 < length s → (states_in s ≡ 0) ⊎ (64 < states_in s) → Placed s (chart_refusal 2 0 0)
      count here f = placed 2 0 0 (omega arith) (omega arith) (omega arith) here (states refl refl refl f)

pub refused : (s : List ℕ) (r : Refusal) → read_chart s ≡ Err r → Placed s r
refused s r e = (chart_refused s).where_refused r e

-- ---- the triple is told

-- 6 tells the triple and its byte: that at 4 + n + m + 3 * place + byte is the first out of range
pub tells_the_byte : (s : List ℕ) (r : Refusal) → read_chart s ≡ Err r → r.number ≡ 6 → OutOfRange s r.place r.byte
tells_the_byte s r e = (told s r.number r.place r.byte (refused s r e).at_fault).2

-- 7 tells the triple: number `place` is the first not greater than the one before
pub tells_the_triple : (s : List ℕ) (r : Refusal) → read_chart s ≡ Err r → r.number ≡ 7 → NotGreater s r.place
tells_the_triple s r e = (told s r.number r.place r.byte (refused s r e).at_fault).3
