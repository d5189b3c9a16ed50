-- Rk is the pairs that no formula of depth at most k tells apart; so it is an equivalence, and inside those before it. Assumes nothing.
use mathlib.Core.Path.{◌≡◌, refl, sym, subst, subst⁻¹, ◌∙◌}
use mathlib.Core.Bool.{Bool, So}
use mathlib.Core.List.Memᴰ.{cases_cons}
use mathlib.Core.List.Memᴰ.{head as here}
use mathlib.Core.List.Memᴰ.{not-nil}
use mathlib.Core.List.Memᴰ.{tail as there}
use mathlib.Core.List.{List, [], ◌∷◌, Memᴰ as Mem}
use mathlib.Core.Logic.{◌⊎◌, inl, inr, ◌↔◌, ⊎_elim}
use Prim.Native.Nat.{ℕ, zero, suc, ◌≤◌, zero-le, suc-le-suc}
use native.Mathlib.Nat.{le_of_suc-le-suc, not-suc-le-zero}
use native.Mathlib.Omega.{arith}
use Rattle.settle.specs.Chain.{chain, empty, full}
use Rattle.settle.proofs.Test.{never, both_i, both_e, both_n, either_l, either_r, either_n, tested, stable, ext, any_cong, all_cong}
use Rattle.chart.specs.Chart.{Step}
use Rattle.sheet.specs.Formula.{Label, only, every, Formula, variable, top, bottom, and, or, diamond, box, depth, variable_free}
use Rattle.sheet.specs.Meaning.{leaves, some_step, every_step, some_label, every_label, holds}
use Rattle.sheet.proofs.Meaning.{leaves_i, some_step_i, some_step_e, every_step_i, every_step_e}
use Rattle.nearness.specs.Relation.{Relation, turned, matched, bisimulation_round, Near}
use Rattle.nearness.specs.Mark.{TellsApart}
use Rattle.nearness.proofs.Matched.{matched_e, matched_n}

-- ---- formulas of depth at most k agree on the pairs of Rk

module _ (steps : List Step) (R : Relation) (P : ℕ → Bool) (p q a : ℕ) where
  diamond_move : So (matched steps R p q) → ((x y : ℕ) → So (R (x, y)) → So (P x) → So (P y)) → So (some_step steps a P p) → So (some_step steps a P q)
  diamond_move h f t =
      let r = some_step_e steps a P p t in
      let s = matched_e steps R p q h r.0 r.1 r.2 in
      some_step_i steps a P q s.0 s.1 s.2 (s.3 ∙ r.3) (f _ _ s.4 r.4)

  box_move : So (matched steps R q p) → ((x y : ℕ) → So (R (x, y)) → So (P y) → So (P x)) → So (every_step steps a P p) → So (every_step steps a P q)
  box_move h f t = every_step_i steps a P q (λ u m e g. let s = matched_e steps R q p h u m e in f _ _ s.4 (every_step_e steps a P p t s.0 s.1 s.2 (s.3 ∙ g)))

module _ (m : ℕ) (steps : List Step) (R : Relation) (P : ℕ → Bool) (p q : ℕ) (h : So (bisimulation_round steps R (p, q))) (agreed : (x y : ℕ) → So (R (x, y)) → P x ≡ P y) where
  some_step_same : (a : ℕ) → some_step steps a P p ≡ some_step steps a P q
  unfolding bisimulation_round
  some_step_same a =
      let d = both_e _ _ h in
      ext (diamond_move steps R P p q a d.0 (λ x y r t. sym (agreed x y r) ∙ t)) (diamond_move steps (turned R) P q p a d.1 (λ x y r t. agreed y x r ∙ t))

  every_step_same : (a : ℕ) → every_step steps a P p ≡ every_step steps a P q
  unfolding bisimulation_round
  every_step_same a =
      let d = both_e _ _ h in
      ext (box_move steps (turned R) P p q a d.1 (λ x y r t. sym (agreed y x r) ∙ t)) (box_move steps R P q p a d.0 (λ x y r t. agreed x y r ∙ t))

  some_label_same : (l : Label) → some_label m steps l P p ≡ some_label m steps l P q
  unfolding some_label
  some_label_same (only a) = some_step_same a
  some_label_same every = any_cong _ _ _ (λ a i. some_step_same a)

  every_label_same : (l : Label) → every_label m steps l P p ≡ every_label m steps l P q
  unfolding every_label
  every_label_same (only a) = every_step_same a
  every_label_same every = all_cong _ _ _ (λ a i. every_step_same a)

module _ (m : ℕ) (steps : List Step) (T : ℕ → Bool) where
  pub agree : (f : Formula) (k p q : ℕ) → So (variable_free f) → depth f ≤ k → So (Near steps k (p, q)) → holds m steps f T p ≡ holds m steps f T q
  unfolding holds variable_free depth chain
  agree variable k p q v d h = never v
  agree top k p q v d h = refl
  agree bottom k p q v d h = refl
  agree (and f g) k p q v d h = let e = both_e _ _ v in rw (agree f k p q e.0 (omega arith) h, agree g k p q e.1 (omega arith) h)
  agree (or f g) k p q v d h = let e = both_e _ _ v in rw (agree f k p q e.0 (omega arith) h, agree g k p q e.1 (omega arith) h)
  agree (diamond l f) zero p q v d h = absurd (not-suc-le-zero d)
  agree (box l f) zero p q v d h = absurd (not-suc-le-zero d)
  agree (diamond l f) (suc k) p q v d h = some_label_same m steps (Near steps k) (holds m steps f T) p q h (λ x y r. agree f k x y v (le_of_suc-le-suc d) r) l
  agree (box l f) (suc k) p q v d h = every_label_same m steps (Near steps k) (holds m steps f T) p q h (λ x y r. agree f k x y v (le_of_suc-le-suc d) r) l

-- ---- a pair that is not in Rk is told apart by a formula of depth at most k

record Tells (m : ℕ) (steps : List Step) (k : ℕ) (At : (ℕ → Bool) → Type 0) : Type 0 where
  pub formula : Formula
  pub no_variable : So (variable_free formula)
  pub shallow : depth formula ≤ k
  pub at : At (holds m steps formula empty)

-- true at p and false at q
abbrev Splits : ℕ → ℕ → (ℕ → Bool) → Type 0
Splits p q P = So (P p) × (So (P q) → ⊥)

-- of the steps that pass W: one formula for all of them, that tells x from where they lead
module _ (m : ℕ) (steps : List Step) (k x : ℕ) (W : Step → Bool) where
  abbrev Above : List Step → (ℕ → Bool) → Type 0
  Above us P = So (P x) × ((u : Step) → Mem u us → So (W u) → So (P u.target) → ⊥)

  abbrev Under : List Step → (ℕ → Bool) → Type 0
  Under us P = ((u : Step) → Mem u us → So (W u) → So (P u.target)) × (So (P x) → ⊥)

  above : (us : List Step) → ((u : Step) → Mem u us → So (W u) → Tells m steps k (Splits x u.target)) → Tells m steps k (Above us)
  unfolding holds variable_free depth
  above [] f = record { formula = top; no_variable = refl; shallow = zero-le; at = (refl, λ u i. absurd (not-nil i)) }
  above (u ∷ us) f = go (above us (λ v i. f v (there i))) (tested (W u))
    where
      go : Tells m steps k (Above us) → So (W u) ⊎ (So (W u) → ⊥) → Tells m steps k (Above (u ∷ us))
      go j (inr n) = record { formula = j.formula; no_variable = j.no_variable; shallow = j.shallow; at = (j.at.0, λ v i w. ⊎_elim (λ e. absurd (n (subst (λ z. So (W z)) e w))) (λ i. j.at.1 v i w) (cases_cons i)) }
      go j (inl w) =
          let g = f u (here refl) w in
          record {
            formula = and g.formula j.formula;
            no_variable = both_i g.no_variable j.no_variable;
            shallow = omega (arith, g.shallow, j.shallow);
            at = (both_i g.at.0 j.at.0, λ v i z h. let a = both_e _ _ h in ⊎_elim (λ e. g.at.1 (subst (λ (y : Step). So (holds m steps g.formula empty y.target)) e a.0)) (λ i. j.at.1 v i z a.1) (cases_cons i));
          }

  under : (us : List Step) → ((u : Step) → Mem u us → So (W u) → Tells m steps k (Splits u.target x)) → Tells m steps k (Under us)
  unfolding holds variable_free depth
  under [] f = record { formula = bottom; no_variable = refl; shallow = zero-le; at = (λ u i. absurd (not-nil i), never) }
  under (u ∷ us) f = go (under us (λ v i. f v (there i))) (tested (W u))
    where
      go : Tells m steps k (Under us) → So (W u) ⊎ (So (W u) → ⊥) → Tells m steps k (Under (u ∷ us))
      go j (inr n) = record { formula = j.formula; no_variable = j.no_variable; shallow = j.shallow; at = (λ v i w. ⊎_elim (λ e. absurd (n (subst (λ z. So (W z)) e w))) (λ i. j.at.0 v i w) (cases_cons i), j.at.1) }
      go j (inl w) =
          let g = f u (here refl) w in
          record {
            formula = or g.formula j.formula;
            no_variable = both_i g.no_variable j.no_variable;
            shallow = omega (arith, g.shallow, j.shallow);
            at = (λ v i z. ⊎_elim (λ e. either_l _ (subst⁻¹ (λ (y : Step). So (holds m steps g.formula empty y.target)) e g.at.0)) (λ i. either_r _ (j.at.0 v i z)) (cases_cons i), either_n g.at.1 j.at.1);
          }

module _ (m : ℕ) (steps : List Step) (R : Relation) (k p q : ℕ) (told : (x y : ℕ) → (So (R (x, y)) → ⊥) → Tells m steps k (Splits x y)) where
  -- a step of p that q does not match: it reaches what no step of q with that action reaches
  tell_diamond : (So (matched steps R p q) → ⊥) → Tells m steps (suc k) (Splits p q)
  unfolding holds variable_free depth some_label
  tell_diamond n =
      let r = matched_n steps R p q n in
      let t = r.0 in
      let j = above m steps k t.target (leaves q t.action) steps (λ u i w. told t.target u.target (r.3 u i w)) in
      record {
        formula = diamond (only t.action) j.formula;
        no_variable = j.no_variable;
        shallow = suc-le-suc j.shallow;
        at = (some_step_i _ _ _ _ t r.1 r.2 refl j.at.0, λ h. let s = some_step_e _ _ _ _ h in j.at.1 s.0 s.1 (leaves_i _ _ _ s.2 s.3) s.4);
      }

  -- a step of q that p does not match: each step of p with that action reaches what it does not
  tell_box : (So (matched steps (turned R) q p) → ⊥) → Tells m steps (suc k) (Splits p q)
  unfolding holds variable_free depth every_label
  tell_box n =
      let r = matched_n steps (turned R) q p n in
      let t = r.0 in
      let j = under m steps k t.target (leaves p t.action) steps (λ u i w. told u.target t.target (r.3 u i w)) in
      record {
        formula = box (only t.action) j.formula;
        no_variable = j.no_variable;
        shallow = suc-le-suc j.shallow;
        at = (every_step_i _ _ _ _ (λ u i e f. j.at.0 u i (leaves_i _ _ _ e f)), λ h. j.at.1 (every_step_e _ _ _ _ h t r.1 r.2 refl));
      }

module _ (m : ℕ) (steps : List Step) where
  tell : (k p q : ℕ) → (So (Near steps k (p, q)) → ⊥) → Tells m steps k (Splits p q)
  unfolding chain full bisimulation_round
  tell zero p q n = absurd (n refl)
  tell (suc k) p q n = ⊎_elim (tell_diamond m steps (Near steps k) k p q (tell k)) (tell_box m steps (Near steps k) k p q (tell k)) (both_n _ _ n)

  pub tells_apart : (k p q : ℕ) → (So (Near steps k (p, q)) → ⊥) → (f : Formula) × (depth f ≤ k) × TellsApart m steps f p q
  tells_apart k p q n = let r = tell k p q n in (r.formula, r.shallow, (r.no_variable, λ e. r.at.1 (sym e ∙ r.at.0)))

  pub near_iff : (k p q : ℕ) → So (Near steps k (p, q)) ↔ ((f : Formula) → depth f ≤ k → TellsApart m steps f p q → ⊥)
  near_iff k p q = (λ h f d a. a.1 (agree m steps empty f k p q a.0 d h), λ g. stable _ (λ n. let r = tells_apart k p q n in g r.0 r.1 r.2))

-- ---- Rk is an equivalence; how many actions there are plays no part in it, so 0 will do

module _ (steps : List Step) where
  agree_iff : (k p q : ℕ) → So (Near steps k (p, q)) ↔ ((f : Formula) → So (variable_free f) → depth f ≤ k → holds 0 steps f empty p ≡ holds 0 steps f empty q)
  agree_iff k p q = (λ h f v d. agree 0 steps empty f k p q v d h, λ g. (near_iff 0 steps k p q).1 (λ f d a. a.1 (g f a.0 d)))

  pub near_refl : (k p : ℕ) → So (Near steps k (p, p))
  near_refl k p = (agree_iff k p p).1 (λ f v d. refl)

  pub near_sym : (k p q : ℕ) → So (Near steps k (p, q)) → So (Near steps k (q, p))
  near_sym k p q h = (agree_iff k q p).1 (λ f v d. sym ((agree_iff k p q).0 h f v d))

  pub near_trans : (k p q r : ℕ) → So (Near steps k (p, q)) → So (Near steps k (q, r)) → So (Near steps k (p, r))
  near_trans k p q r h i = (agree_iff k p r).1 (λ f v d. (agree_iff k p q).0 h f v d ∙ (agree_iff k q r).0 i f v d)

  pub near_down : (j k p q : ℕ) → j ≤ k → So (Near steps k (p, q)) → So (Near steps j (p, q))
  near_down j k p q l h = (agree_iff j p q).1 (λ f v d. (agree_iff k p q).0 h f v (omega arith))
