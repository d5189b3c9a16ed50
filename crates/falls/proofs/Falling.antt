-- What a round does to the relation that the rows hold, and what it notes for the next. Assumes nothing.
use Prim.Native.Nat.{ℕ, suc, ◌+◌, ◌-◌, ◌*◌, ◌^◌, ◌≤◌, ◌<◌}
use mathlib.Core.Path.{◌≡◌, refl, sym, ap, subst, ◌∙◌}
use mathlib.Core.Bool.{Bool, So}
use mathlib.Core.List.{List, Memᴰ as Mem}
use mathlib.Core.Logic.{◌⊎◌, inl, inr}
use native.Mathlib.Omega.{arith}
use native.Mathlib.Decide.{dec_le, dec_lt}
use native.Mathlib.Nat.{zero-add}
use borrow.Author.Tests.{eq-eqb, eqb-true}
use lib.Bits.{and_le_l}
use lib.Dec.{eqb}
use lib.ListN.{get_or}
use lib.Pow.{pow_pos}
use Rattle.settle.specs.Test.{both, neg}
use Rattle.settle.specs.Finite.{pairs}
use Rattle.settle.specs.Chain.{full, chain}
use Rattle.settle.proofs.Test.{never, tested, stable, ext, both_i, both_e, neg_i, neg_e, each_i, each_e, picked}
use Rattle.settle.proofs.Finite.{below_i, below_e, pairs_i}
use Rattle.settle.proofs.Chain.{down}
use Rattle.chart.specs.Chart.{Step}
use Rattle.chart.specs.Layout.{StepIn}
use Rattle.words.specs.Words.{member}
use Rattle.words.proofs.Words.{none_member, others_member}
use Rattle.steps.specs.Table.{Table, HasStep}
use Rattle.steps.specs.Walk.{leads}
use Rattle.words.proofs.Bits.{and_member}
use Rattle.steps.proofs.Leads.{leads_i, leads_small}
use Rattle.steps.proofs.Stepping.{member_below, has_step, lead_i, lead_e}
use Rattle.nearness.specs.Relation.{Relation, matched, simulation_round, Simulating}
use Rattle.nearness.proofs.Matched.{matched_i, matched_e, simulation_monotone}
use Rattle.relation.specs.Rows.{in_rows, Holds, Keeps}
use Rattle.relation.proofs.Keeping.{keeps_holds}
use Rattle.falls.specs.Round.{outlasts, able_too, fallen, Noted, Fallen}
use Rattle.falls.proofs.Steps.{Tables, all_member, keeps_step_i, keeps_step_e}

-- R fell to the rows: in `changed` are the states whose rows became smaller, and noted is what fell from them
pub record Took (n : ℕ) (R : Relation) (near fell : List ℕ) (changed : ℕ) : Type 0 where
  pub some_fell : Fallen n fell changed
  pub fell_is : (x q : ℕ) → So (member changed x) → q < n → member (get_or fell x 0) q ≡ both (R (x, q)) (neg (in_rows near x q))
  pub others_stay : (x q : ℕ) → x < n → q < n → (So (member changed x) → ⊥) → R (x, q) ≡ in_rows near x q

-- ---- what is noted is what fell, where no row changes but of the states looked at

module _ {n : ℕ} {R : Relation} {K : ℕ → ℕ → Bool} {old new fell noted : List ℕ} {changed : ℕ} (among : ℕ → Bool) (h : Holds n R old) (k : Keeps n K old new) (w : Noted n among old new fell noted changed)
    (among_states : (x : ℕ) → So (among x) → x < n) (others : (x q : ℕ) → x < n → (So (among x) → ⊥) → So (K x q)) where
  fallen_member : (x q : ℕ) → q < n → member (fallen (2 ^ n - 1) old new x) q ≡ both (in_rows old x q) (neg (in_rows new x q))
  fallen_member x q i = and_member _ _ q ∙ ap (both (in_rows old x q)) (others_member n _ q (k.within.no_bit_above x) i)

  noted_is : (x : ℕ) → So (member changed x) → get_or noted x 0 ≡ fallen (2 ^ n - 1) old new x
  noted_is x c = w.fell_noted x ∙ picked _ _ _ c

  -- a state that is not in `changed` was not looked at, or nothing fell from its row
  row_stays : (x q : ℕ) → x < n → q < n → (So (member changed x) → ⊥) → in_rows old x q ≡ in_rows new x q
  row_stays x q i j f = ext (λ s. stays s (tested (among x))) (λ t. (both_e _ _ (sym (k.kept x q) ∙ t)).0)
    where
      stays : So (in_rows old x q) → So (among x) ⊎ (So (among x) → ⊥) → So (in_rows new x q)
      stays s (inr g) = k.kept x q ∙ both_i s (others x q i g)
      stays s (inl a) =
          let none : fallen (2 ^ n - 1) old new x ≡ 0 = eqb-true _ _ (stable _ (λ g. f (w.rows_changed x ∙ both_i a (neg_i _ g)))) in
          stable _ (λ g. never (sym (ap (λ (y : ℕ). member y q) none ∙ none_member q) ∙ fallen_member x q j ∙ both_i s (neg_i _ g)))

  pub noted_took : Took n R new noted changed
  noted_took =
      record {
        some_fell = λ x c.
            let d = both_e _ _ (sym (w.rows_changed x) ∙ c) in
            (among_states x d.0, subst (λ (y : ℕ). 0 < y) (sym (noted_is x c)) (positive _ d.1), omega (arith, noted_is x c, and_le_l (get_or old x 0) (2 ^ n - 1 - get_or new x 0), h.within.no_bit_above x));
        fell_is = λ x q c j. ap (λ (y : ℕ). member y q) (noted_is x c) ∙ fallen_member x q j ∙ ap (λ (b : Bool). both b (neg (in_rows new x q))) (h.bits x q (among_states x (both_e _ _ (sym (w.rows_changed x) ∙ c)).0) j);
        others_stay = λ x q i j f. sym (h.bits x q i j) ∙ row_stays x q i j f;
      }
    where
      positive : (y : ℕ) → So (neg (eqb y 0)) → 0 < y
      positive y t = elim (dec_lt 0 y) [ yes p ↦ p | no f ↦ absurd (neg_e _ t (eq-eqb y 0 (omega arith))) ]

-- ---- a round

module _ {n m : ℕ} {steps : List Step} {into out : List ℕ} (T : Tables n m steps into out) where
  simulating_down : (k p q : ℕ) → p < n → q < n → So (Simulating steps (suc k) (p, q)) → So (Simulating steps k (p, q))
  simulating_down k p q i j = down (pairs n) (simulation_round steps) (simulation_monotone n steps (λ u v. (T.steps_in u v).target_in)) k (p, q) (pairs_i n p q i j)

  module _ (k : ℕ) {near fell : List ℕ} {changed : ℕ} (h : Holds n (Simulating steps (suc k)) near) (w : Took n (Simulating steps k) near fell changed) where
    -- what was in a row is left of it or fell
    left_or_fell : (x z : ℕ) → So (member changed x) → z < n → So (Simulating steps k (x, z)) → So (in_rows near x z) ⊎ So (member (get_or fell x 0) z)
    left_or_fell x z c l s = elim (tested (in_rows near x z)) [ inl t ↦ inl t | inr f ↦ inr (w.fell_is x z c l ∙ both_i s (neg_i _ f)) ]

    -- those that outlast the round are matched once more
    outlasting : (p q : ℕ) → p < n → q < n → So (both (Simulating steps (suc k) (p, q)) (outlasts into out n m near fell changed p q)) → So (matched steps (Simulating steps (suc k)) p q)
    unfolding chain simulation_round
    outlasting p q i j t = matched_i steps (Simulating steps (suc k)) p q (λ s l e. found s l e (matched_e steps (Simulating steps k) p q (both_e _ _ t).0 s l e) (tested (member changed s.target)))
      where
        Found : Step → Relation → Type 0
        Found s R = (u : Step) × Mem u steps × (u.source ≡ q) × (u.action ≡ s.action) × So (R (s.target, u.target))

        found : (s : Step) → Mem s steps → s.source ≡ p → Found s (Simulating steps k) → So (member changed s.target) ⊎ (So (member changed s.target) → ⊥) → Found s (Simulating steps (suc k))
        found s l e r (inr f) =
            let x_in = (T.steps_in s l).target_in in
            let u_in = (T.steps_in r.0 r.1).target_in in
            (r.0, r.1, r.2, r.3, sym (h.bits _ _ x_in u_in) ∙ sym (w.others_stay _ _ x_in u_in f) ∙ r.4)
        found s l e r (inl c) =
            let v = T.steps_in s l in
            let a_in = v.action_in in
            let x_in = v.target_in in
            let kept = each_e _ _ (each_e _ _ (both_e _ _ t).1 (below_i 64 s.target (omega (arith, T.states_few))) c) (below_i m s.action a_in) ((T.forth.by_action s.action s.target p a_in x_in).1 (has_step s l e refl)) in
            let y = keeps_step_e T s.action a_in _ _ q j (h.within.no_bit_above s.target) _ kept r.0.target (has_step r.0 r.1 r.2 r.3) (left_or_fell s.target r.0.target c (T.steps_in r.0 r.1).target_in r.4) in
            (record { source = q; action = s.action; target = y.0 }, y.1, refl, refl, sym (h.bits _ _ x_in (T.steps_in _ y.1).target_in) ∙ y.2)

    -- and those that are matched once more outlast it
    outlasted : (p q : ℕ) → p < n → q < n → So (matched steps (Simulating steps (suc k)) p q) → So (outlasts into out n m near fell changed p q)
    outlasted p q i j t = each_i _ _ _ (λ x l c. each_i _ _ _ (λ a o s.
        let a_in = below_e m a o in
        let x_in = (w.some_fell x c).0 in
        let r = matched_e steps (Simulating steps (suc k)) p q t _ ((T.forth.by_action a x p a_in x_in).0 s) refl in
        keeps_step_i T a a_in _ _ q j (h.within.no_bit_above x) _ r.0.target (has_step r.0 r.1 r.2 r.3) (h.bits x _ x_in (T.steps_in r.0 r.1).target_in ∙ r.4)))

    module _ {r : List ℕ} (keeps : Keeps n (outlasts into out n m near fell changed) near r) where
      pub round_holds : Holds n (Simulating steps (suc (suc k))) r
      unfolding chain simulation_round
      round_holds = keeps_holds h keeps (λ p q i j. ext (outlasting p q i j) (λ t. both_i (simulating_down (suc k) p q i j t) (outlasted p q i j t)))

      -- a state without a step to one whose row became smaller keeps its row
      pub round_took : {old noted : List ℕ} {next : ℕ} → Noted n (leads into 0 changed) near r old noted next → Took n (Simulating steps (suc k)) r noted next
      round_took d =
          noted_took (leads into 0 changed) h keeps d
          (λ x t. elim (dec_le n x) [ yes l ↦ never (sym (leads_small n into 0 changed x T.forth.no_bit_above l) ∙ t) | no f ↦ omega arith ])
          (λ x q i f. each_i _ _ _ (λ y l c. each_i _ _ _ (λ a o s.
          let y_in = (w.some_fell y c).0 in
          absurd (f (leads_i into 0 changed x y (omega (arith, T.states_few)) c
          (subst (λ (e : ℕ). So (member (get_or into e 0) x)) (sym (zero-add y)) ((T.forth.by_any y x y_in).1 (a, (T.forth.by_action a y x (below_e m a o) y_in).0 s))))))))

-- ---- the first round, for which the table of the steps as they are is enough

module _ {n m : ℕ} {steps : List Step} {into : List ℕ} (few : n ≤ 64) (steps_in : (v : Step) → Mem v steps → StepIn n m v) (T : Table n m steps into)
    {whole near : List ℕ} (h : Holds n full whole) (keeps : Keeps n (able_too into n m) whole near) where
  able : (a p u : ℕ) → a < m → HasStep steps p a u → So (leads into ((a + 1) * n) (2 ^ n - 1) p)
  able a p u a_in i = lead_i few T a a_in (2 ^ n - 1) p u (steps_in _ i).target_in (all_member n u (steps_in _ i).target_in) i

  stepping : (a p : ℕ) → a < m → So (leads into ((a + 1) * n) (2 ^ n - 1) p) → (u : ℕ) × HasStep steps p a u
  stepping a p a_in t = let r = lead_e few T a a_in (2 ^ n - 1) p (omega (arith, pow_pos n)) t in (r.0, r.2)

  pub first_holds : Holds n (Simulating steps 1) near
  unfolding chain simulation_round full both
  first_holds = keeps_holds h keeps (λ p q i j. ext
      (λ t. matched_i steps full p q (λ s l e.
      let a_in = (steps_in s l).action_in in
      let r = stepping s.action q a_in (each_e _ _ t (below_i m s.action a_in) (able s.action p s.target a_in (has_step s l e refl))) in
      (record { source = q; action = s.action; target = r.0 }, r.1, refl, refl, refl)))
      (λ t. each_i _ _ _ (λ a o s.
      let a_in = below_e m a o in
      let r = matched_e steps full p q t _ (stepping a p a_in s).1 refl in
      able a q r.0.target a_in (has_step r.0 r.1 r.2 r.3))))

  pub first_took : {old noted : List ℕ} {next : ℕ} → Noted n (member (2 ^ n - 1)) whole near old noted next → Took n (Simulating steps 0) near noted next
  unfolding chain
  first_took d = noted_took (member (2 ^ n - 1)) h keeps d (λ x t. member_below n (2 ^ n - 1) x (omega (arith, pow_pos n)) t) (λ x q i f. absurd (f (all_member n x i)))
