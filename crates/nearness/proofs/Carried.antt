-- A map of states that keeps and reflects steps keeps every Rk, the marks, and, where it is onto, the rounds. Assumes nothing.
use mathlib.Core.Path.{◌≡◌, refl, sym, ap, subst, subst⁻¹, ◌∙◌}
use mathlib.Core.Bool.{So}
use mathlib.Core.List.{List}
use mathlib.Core.Logic.Iff
use mathlib.Core.Logic.{◌↔◌}
use Prim.Native.Nat.{ℕ, zero, suc, ◌<◌}
use Rattle.settle.specs.Finite.{pairs}
use Rattle.settle.specs.Chain.{Least, full, chain, Settled, Rounds}
use Rattle.settle.proofs.Test.{ext}
use Rattle.settle.proofs.Finite.{pairs_i, pairs_e_lem}
use Rattle.chart.specs.Chart.{Step}
use Rattle.sheet.proofs.Meaning.{TargetsBelow}
use Rattle.nearness.specs.Relation.{Relation, turned, matched, bisimulation_round, Near}
use Rattle.nearness.specs.Mark.{Mark}
use Rattle.nearness.specs.Carried.{Carries}
use Rattle.nearness.proofs.Matched.{matched_i, matched_e}

-- the least of two that hold of the same numbers
least_same : {P Q : ℕ → Type 0} → ((k : ℕ) → P k ↔ Q k) → (k : ℕ) → Least P k → Least Q k
least_same e k l = ((e k).0 l.0, λ j h q. l.1 j h ((e j).1 q))

module _ (n : ℕ) (S S' : List Step) (f g : ℕ → ℕ) (targets : TargetsBelow n S) (carries : Carries n S S' f g) where
  module _ (R R' : Relation) (agreed : (x y : ℕ) → x < n → y < n → R (x, y) ≡ R' (f x, f y)) (p q : ℕ) (p_in : p < n) (q_in : q < n) where
    matched_carried : matched S R p q ≡ matched S' R' (f p) (f q)
    matched_carried = ext
        (λ h. matched_i S' R' (f p) (f q) (λ u m e.
        let t = carries.reflects p p_in u m e in
        let v = matched_e S R p q h t.0 t.1 t.2 in
        (record { source = f v.0.source; action = g v.0.action; target = f v.0.target }, carries.keeps v.0 v.1, ap f v.2, ap g v.3 ∙ sym t.3, subst⁻¹ (λ z. So (R' (z, f v.0.target))) t.4 (sym (agreed _ _ (targets _ t.1) (targets _ v.1)) ∙ v.4))))
        (λ h. matched_i S R p q (λ t m e.
        let u = matched_e S' R' (f p) (f q) h _ (carries.keeps t m) (ap f e) in
        let v = carries.reflects q q_in u.0 u.1 u.2 in
        (v.0, v.1, v.2, carries.one_to_one v.0 t v.1 m (sym v.3 ∙ u.3), agreed _ _ (targets t m) (targets _ v.1) ∙ subst (λ z. So (R' (f t.target, z))) v.4 u.4)))

  pub near_carried : (k p q : ℕ) → p < n → q < n → Near S k (p, q) ≡ Near S' k (f p, f q)
  unfolding chain full bisimulation_round
  near_carried zero p q h i = refl
  near_carried (suc k) p q h i =
      let a = matched_carried (Near S k) (Near S' k) (near_carried k) p q h i in
      let b = matched_carried (turned (Near S k)) (turned (Near S' k)) (λ x y j l. near_carried k y x l j) q p i h in
      rw (a, b)

  module _ (p q : ℕ) (p_in : p < n) (q_in : q < n) where
    near_here : (k : ℕ) → Near S k (p, q) ≡ Near S' k (f p, f q)
    near_here k = near_carried k p q p_in q_in

    pub mark_carried : (d : ℕ) → Mark S p q d ↔ Mark S' (f p) (f q) d
    unfolding Mark
    mark_carried zero = (λ m k. sym (near_here k) ∙ m k, λ m k. near_here k ∙ m k)
    mark_carried (suc d) = (least_same out (suc d), least_same (λ k. Iff.symm (out k)) (suc d))
      where
        out : (k : ℕ) → (So (Near S k (p, q)) → ⊥) ↔ (So (Near S' k (f p, f q)) → ⊥)
        out k = (λ o t. o (near_here k ∙ t), λ o t. o (sym (near_here k) ∙ t))

  -- where f maps the states below n onto those below n'
  module _ (n' : ℕ) (into : (x : ℕ) → x < n → f x < n') (onto : (y : ℕ) → y < n' → (x : ℕ) × (x < n) × (f x ≡ y)) where
    settled_carried : (k : ℕ) → Settled (pairs n) (Near S) k ↔ Settled (pairs n') (Near S') k
    settled_carried k = (forth, back)
      where
        forth : Settled (pairs n) (Near S) k → Settled (pairs n') (Near S') k
        forth s z m =
            let b = pairs_e_lem n' z m in
            let x = onto z.0 b.0 in
            let y = onto z.1 b.1 in
            let e = sym (near_carried k _ _ x.1 y.1) ∙ s _ (pairs_i n _ _ x.1 y.1) ∙ near_carried (suc k) _ _ x.1 y.1 in
            rw (x.2, y.2) at e

        back : Settled (pairs n') (Near S') k → Settled (pairs n) (Near S) k
        back s z m =
            let b = pairs_e_lem n z m in
            near_carried k _ _ b.0 b.1 ∙ s _ (pairs_i n' _ _ (into _ b.0) (into _ b.1)) ∙ sym (near_carried (suc k) _ _ b.0 b.1)

    pub rounds_carried : (k : ℕ) → Rounds (pairs n) (Near S) k ↔ Rounds (pairs n') (Near S') k
    rounds_carried k = (least_same settled_carried k, least_same (λ j. Iff.symm (settled_carried j)) k)
