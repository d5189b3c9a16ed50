-- The table of no step, and the table of one step more, as it is or turned back.
use Prim.Native.Nat.{ℕ, zero, suc, ◌+◌, ◌*◌, ◌/◌, ◌%◌, ◌^◌, ◌≤◌, ◌<◌}
use mathlib.Core.Path.{◌≡◌, refl, ap, sym, ◌∙◌}
use mathlib.Core.Bool.{So}
use mathlib.Core.List.Memᴰ
use mathlib.Core.List.Memᴰ.{append_cases}
use mathlib.Core.List.Memᴰ.{eq_of_singleton as the_one}
use mathlib.Core.List.Memᴰ.{head as here}
use mathlib.Core.List.Memᴰ.{not-nil}
use mathlib.Core.List.{List, [], ◌∷◌, ◌++◌, map-append}
use mathlib.Core.Logic.{◌⊎◌, inl, inr}
use native.Mathlib.Decide.{ℕ_discrete}
use native.Mathlib.Nat.{mul-le-mul, mul-le-mul_right}
use native.Mathlib.Omega.{arith}
use borrow.Author.Tests.{eq-eqb, ne_eqb, eqb-true}
use lib.Arith.{digits_lt, digits_div, digits_mod}
use lib.Bits.{or_lt}
use lib.Dec.{eqb}
use lib.ListN.{length, length-set, get_or, replicate}
use lib.Pow.{pow-lt, pow_pos}
use lib.Seq.{get_or-set_same, get_or-set_other}
use Rattle.settle.specs.Test.{both, either}
use Rattle.settle.proofs.Test.{never, both_i, both_e, either_l, either_r, either_e, either_false}
use Rattle.chart.specs.Chart.{Step}
use Rattle.chart.specs.Layout.{StepIn}
use Rattle.chart.specs.declared.Shape.{Shape}
use Rattle.chart.proofs.Accepted.{accepted}
use Rattle.words.specs.Words.{member}
use Rattle.words.proofs.Words.{no_member}
use Rattle.steps.specs.Table.{ReadAs, Table, HasStep, Blank, turn, taken, directed, with_bit, with_step}
use Rattle.steps.specs.declared.table.Direction.{Direction}
use Rattle.steps.specs.declared.table.Direction.TheVariants.{Forth, Back}
use Rattle.words.proofs.Bits.{or_member, one_member}

-- ---- bit s of word e, one more

module _ (s e : ℕ) (into : List ℕ) (e_in : e < length into) where
  bits_with : (f x : ℕ) → member (get_or (with_bit s e into) f 0) x ≡ either (member (get_or into f 0) x) (both (eqb f e) (eqb s x))
  unfolding both
  bits_with f x =
      elim (ℕ_discrete f e) [
        | yes q ↦ rw (q, eq-eqb e e refl, get_or-set_same into e _ 0 e_in, or_member (get_or into e 0) (2 ^ s) x, one_member s x)
        | no q ↦ rw (ne_eqb f e q, get_or-set_other into e f _ 0 q) (sym (either_false _))
      ]

  bit_set : So (member (get_or (with_bit s e into) e 0) s)
  bit_set = bits_with e s ∙ either_r _ (both_i (eq-eqb e e refl) (eq-eqb s s refl))

  bit_kept : (f x : ℕ) → So (member (get_or into f 0) x) → So (member (get_or (with_bit s e into) f 0) x)
  bit_kept f x t = bits_with f x ∙ either_l _ t

  bit_from : (f x : ℕ) → So (member (get_or (with_bit s e into) f 0) x) → So (member (get_or into f 0) x) ⊎ ((f ≡ e) × (s ≡ x))
  bit_from f x t =
      elim (either_e _ _ (sym (bits_with f x) ∙ t)) [
        | inl k ↦ inl k
        | inr k ↦ let r = both_e _ _ k in inr (eqb-true f e r.0, eqb-true s x r.1)
      ]

  no_bit_above_with : (n : ℕ) → s < n → ((f : ℕ) → get_or into f 0 < 2 ^ n) → (f : ℕ) → get_or (with_bit s e into) f 0 < 2 ^ n
  no_bit_above_with n h below f =
      elim (ℕ_discrete f e) [
        | yes q ↦ rw (q, get_or-set_same into e _ 0 e_in) (or_lt n _ _ (below e) (pow-lt h))
        | no q ↦ rw (get_or-set_other into e f _ 0 q) (below f)
      ]

-- ---- the table

-- words that are made as 0 have no bit
pub blank : (size : ℕ) → Blank (replicate size 0)
blank zero e = refl
blank (suc size) zero = refl
blank (suc size) (suc e) = blank size e

-- the words of every table, of at most 64 states and 32 actions
pub table_few : (chart : List ℕ) (shape : Shape) → ReadAs chart shape → (shape.m + 1) * shape.n ≤ 2112
table_few chart shape e =
    let a = accepted chart shape e in
    let rows : shape.m + 1 ≤ 33 = omega (arith, a.actions_few) in
    omega (arith, mul-le-mul rows a.states_few)

pub table_none : (direction : Direction) (n m : ℕ) (into : List ℕ) → Blank into → (m + 1) * n ≤ length into → Table n m (directed direction []) into
table_none direction n m into blank h = rw (none direction) (record {
  room = h;
  no_bit_above = λ e. rw (blank e) (pow_pos n);
  by_action = λ a u s a_in u_in. (no_bit ((a + 1) * n + u) s, λ k. absurd (not-nil k));
  by_any = λ u s u_in. (no_bit u s, λ k. absurd (not-nil k.1));
  none_after = λ e h. blank e;
})
  where
    none : (direction : Direction) → directed direction [] ≡ []
    none Forth = refl
    none Back = refl

    no_bit : {X : Type 0} (e s : ℕ) → So (member (get_or into e 0) s) → X
    no_bit e s t = never (sym (no_member 0 _ s (rw (blank e) (pow_pos 0)) (omega arith)) ∙ t)

-- a word of an action's row is one of no other row, and of no other target
same_word : (n a b u w : ℕ) → u < n → w < n → (a + 1) * n + u ≡ (b + 1) * n + w → (a ≡ b) × (u ≡ w)
same_word n a b u w h k e =
    let q : a + 1 ≡ b + 1 = sym (digits_div (a + 1) h) ∙ ap (λ (x : ℕ). x / n) e ∙ digits_div (b + 1) k in
    (omega arith, sym (digits_mod (a + 1) h) ∙ ap (λ (x : ℕ). x % n) e ∙ digits_mod (b + 1) k)

module _ (n m : ℕ) (steps : List Step) (into : List ℕ) (v : Step) (v_in : StepIn n m v) (T : Table n m steps into) where
  -- the place of the target's word in the action's row, and the words once row 0 has the step
  abbrev own : ℕ
  own = (v.action + 1) * n + v.target

  abbrev begun : List ℕ
  begun = with_bit v.source v.target into

  abbrev done : List ℕ
  done = with_step n v into

  target_in : v.target < length into
  target_in = omega (arith, T.room, v_in.target_in)

  own_below : own < (m + 1) * n
  own_below = digits_lt {q = v.action + 1} {m = m + 1} (omega (arith, v_in.action_in)) v_in.target_in

  own_in : own < length begun
  own_in = simp length-set (omega (arith, T.room, own_below))

  -- a bit was there, or is the step's
  old_or_own : (e s : ℕ) → So (member (get_or done e 0) s) → So (member (get_or into e 0) s) ⊎ (((e ≡ v.target) ⊎ (e ≡ own)) × (v.source ≡ s))
  old_or_own e s t =
      elim (bit_from v.source own begun own_in e s t) [
        | inr k ↦ inr (inr k.0, k.1)
        | inl k ↦ elim (bit_from v.source v.target into target_in e s k) [ inl k ↦ inl k | inr k ↦ inr (inl k.0, k.1) ]
      ]

  kept_from_begun : (e s : ℕ) → So (member (get_or begun e 0) s) → So (member (get_or done e 0) s)
  kept_from_begun = bit_kept v.source own begun own_in

  kept : (e s : ℕ) → So (member (get_or into e 0) s) → So (member (get_or done e 0) s)
  kept e s t = kept_from_begun e s (bit_kept v.source v.target into target_in e s t)

  last_step : (s a u : ℕ) → v.source ≡ s → a ≡ v.action → u ≡ v.target → HasStep (steps ++ (v ∷ [])) s a u
  last_step s a u p q r = Memᴰ.append_right steps (here (rw (sym p, q, r)))

  pub table_more : Table n m (steps ++ (v ∷ [])) done
  table_more =
      record {
        room = simp length-set T.room;
        no_bit_above =
            no_bit_above_with v.source own begun own_in n v_in.source_in
            (no_bit_above_with v.source v.target into target_in n v_in.source_in T.no_bit_above);
        by_action = λ a u s a_in u_in. (
          λ t. elim (old_or_own ((a + 1) * n + u) s t) [
            | inl k ↦ Memᴰ.append_left (v ∷ []) ((T.by_action a u s a_in u_in).0 k)
            | inr k ↦ elim k.0 [
              | inl e ↦ absurd (omega (arith, e, v_in.target_in))
              | inr e ↦ let q = same_word n a v.action u v.target u_in v_in.target_in e in last_step s a u k.1 q.0 q.1
            ]
          ],
          λ k. elim (append_cases steps k) [
            | inl i ↦ kept ((a + 1) * n + u) s ((T.by_action a u s a_in u_in).1 i)
            | inr i ↦ let q = the_one i in
                rw (ap (λ (x : Step). x.source) q, ap (λ (x : Step). x.action) q, ap (λ (x : Step). x.target) q) (bit_set v.source own begun own_in)
          ],
        );
        by_any = λ u s u_in. (
          λ t. elim (old_or_own u s t) [
            | inl k ↦ let r = (T.by_any u s u_in).0 k in (r.0, Memᴰ.append_left (v ∷ []) r.1)
            | inr k ↦ elim k.0 [
              | inl e ↦ (v.action, last_step s v.action u k.1 refl e)
              | inr e ↦ absurd (omega (arith, e, u_in))
            ]
          ],
          λ k. elim (append_cases steps k.1) [
            | inl i ↦ kept u s ((T.by_any u s u_in).1 (k.0, i))
            | inr i ↦ let q = the_one i in
                rw (ap (λ (x : Step). x.source) q, ap (λ (x : Step). x.target) q)
                (kept_from_begun v.target v.source (bit_set v.source v.target into target_in))
          ],
        );
        none_after = λ e h.
            get_or-set_other begun own e _ 0 (λ q. omega (arith, q, own_below))
            ∙ get_or-set_other into v.target e _ 0 (λ q. omega (arith, q, v_in.target_in))
            ∙ T.none_after e h;
      }

-- the same of the steps as they are, or of all of them turned back
pub table_directed : (direction : Direction) (n m : ℕ) (steps : List Step) (into : List ℕ) (v : Step) → StepIn n m v → Table n m (directed direction steps) into
    → Table n m (directed direction (steps ++ (v ∷ []))) (with_step n (taken direction v) into)
table_directed Back n m steps into v v_in T =
    rw (map-append turn steps (v ∷ [])) (table_more n m _ into (turn v) (record { source_in = v_in.target_in; action_in = v_in.action_in; target_in = v_in.source_in }) T)
table_directed Forth n m steps into v v_in T = table_more n m steps into v v_in T

-- a step that is turned back is one of the same states and actions
pub taken_in : (direction : Direction) {n m : ℕ} {v : Step} → StepIn n m v → StepIn n m (taken direction v)
taken_in Forth v_in = v_in
taken_in Back v_in = record { source_in = v_in.target_in; action_in = v_in.action_in; target_in = v_in.source_in }

-- u is v as it is taken: it has a row, and once it is in, v is
module _ (direction : Direction) {n m : ℕ} (steps : List Step) {into : List ℕ} (v u : Step) (e : u ≡ taken direction v) (v_in : StepIn n m v) (T : Table n m (directed direction steps) into) where
  pub step_room : (u.action + 1) * n + n ≤ length into
  step_room = let w : StepIn n m u = rw e (taken_in direction v_in) in omega (arith, mul-le-mul_right {m = u.action + 1 + 1} {n = m + 1} n (omega (arith, w.action_in)), T.room)

  pub step_added : {new : List ℕ} → new ≡ with_step n u into → Table n m (directed direction (steps ++ (v ∷ []))) new
  step_added f = rw (f, e) (table_directed direction n m steps into v v_in T)
