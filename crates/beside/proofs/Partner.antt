-- Partners are just the pairs of a state of the first and a state of the second that bear the mark 0 side by side; relations that are tests do as much
-- as relations of any kind; each state is a partner of itself, and partners are so in either order. Assumes nothing.
use Prim.Native.Nat.{ℕ, ◌+◌, ◌<◌}
use mathlib.Core.Path.{◌≡◌, refl, sym, ap, subst⁻¹, subst₂, ◌∙◌}
use mathlib.Core.Bool.{Bool, So}
use mathlib.Core.Logic.{◌↔◌}
use native.Mathlib.Nat.{zero-add}
use native.Mathlib.Omega.{arith}
use lib.Dec.{eqb, ltb}
use borrow.Author.Tests.{eqb-true, eq-eqb, ltb-true, lt-ltb}
use Rattle.settle.specs.Test.{both}
use Rattle.settle.proofs.Test.{both_i, both_e}
use Rattle.chart.specs.Chart.{Chart, states}
use Rattle.chart.specs.Layout.{WellFormed}
use Rattle.nearness.specs.Bisimulation.{IsBisimulation, Of}
use Rattle.nearness.specs.Mark.{Mark}
use Rattle.nearness.proofs.Bisimulation.{bisimulation_in}
use Rattle.nearness.proofs.Rounds.{equal_iff}
use Rattle.beside.specs.Beside.{index_of, joint_codes, beside}
use Rattle.beside.specs.Partner.{Matching, Partners, PartnersAny}
use Rattle.beside.proofs.Steps.{step_first, step_second, same_code, targets_below}
use Rattle.beside.proofs.Within.{carries_first, carries_second}

module _ (c d : Chart) (formed_first : WellFormed c) (formed_second : WellFormed d) where
  -- ---- a bisimulation of the two side by side, from the first's states to the second's, matches

  module _ (R : ℕ → ℕ → Bool) (bisimulation : IsBisimulation (beside c d).steps (Of R)) where
    across : ℕ → ℕ → Bool
    across p q = both (ltb p (states c)) (both (ltb q (states d)) (R p (states c + q)))

    across_i : (p q : ℕ) → p < states c → q < states d → So (R p (states c + q)) → So (across p q)
    unfolding across
    across_i p q h i t = both_i (lt-ltb p (states c) h) (both_i (lt-ltb q (states d) i) t)

    across_e : (p q : ℕ) → So (across p q) → (p < states c) × (q < states d) × So (R p (states c + q))
    unfolding across
    across_e p q t = let a = both_e _ _ t in let b = both_e _ _ a.1 in (ltb-true p (states c) a.0, ltb-true q (states d) b.0, b.1)

    across_matches : Matching c d (Of across)
    across_matches = (
      record {
        forth = λ p q r t m e. (
            let a = across_e p q r in
            let s = bisimulation.0.forth p (states c + q) a.2 _ (step_first c d t m) (zero-add t.source ∙ e) in
            let u = (carries_second c d formed_first formed_second).reflects q a.1 s.0 s.1 s.2 in
            (u.0, u.1, u.2, sym (same_code c d formed_first formed_second t u.0 m u.1 (sym s.3 ∙ u.3)), across_i _ _ (formed_first.steps_in t m).target_in (formed_second.steps_in u.0 u.1).target_in (subst₂ (Of R) (zero-add t.target) u.4 s.4)));
      },
      record {
        forth = λ q p r t m e. (
            let a = across_e p q r in
            let s = bisimulation.1.forth (states c + q) p a.2 _ (step_second c d t m) (ap (λ x. states c + x) e) in
            let u = (carries_first c d formed_first formed_second).reflects p a.0 s.0 s.1 (s.2 ∙ sym (zero-add p)) in
            (u.0, u.1, u.2, same_code c d formed_first formed_second u.0 t u.1 m (sym u.3 ∙ s.3), across_i _ _ (formed_first.steps_in u.0 u.1).target_in (formed_second.steps_in t m).target_in (subst₂ (Of R) (u.4 ∙ zero-add u.0.target) refl s.4)));
      },
    )

  -- ---- a relation that matches, of any kind, is a bisimulation of the two side by side

  module _ (R : ℕ → ℕ → Type 0) (matching : Matching c d R) where
    abbrev Beside : ℕ → ℕ → Type 0
    Beside x y = (q : ℕ) × (x < states c) × (q < states d) × (y ≡ states c + q) × R x q

    beside_bisimulation : IsBisimulation (beside c d).steps Beside
    beside_bisimulation = (
      record {
        forth = λ x y r t m e. (
            let (q, h, i, f, k) = r in
            let a = (carries_first c d formed_first formed_second).reflects x h t m (e ∙ sym (zero-add x)) in
            let s = matching.0.forth x q k a.0 a.1 a.2 in
            (_, step_second c d s.0 s.1, ap (λ z. states c + z) s.2 ∙ sym f, ap (λ z. index_of z (joint_codes c d)) s.3 ∙ sym a.3, (s.0.target, omega (arith, a.4, (formed_first.steps_in a.0 a.1).target_in), (formed_second.steps_in s.0 s.1).target_in, refl, subst⁻¹ (λ z. R z s.0.target) (a.4 ∙ zero-add a.0.target) s.4)));
      },
      record {
        forth = λ y x r t m e. (
            let (q, h, i, f, k) = r in
            let a = (carries_second c d formed_first formed_second).reflects q i t m (e ∙ f) in
            let s = matching.1.forth q x k a.0 a.1 a.2 in
            (_, step_first c d s.0 s.1, zero-add s.0.source ∙ s.2, ap (λ z. index_of z (joint_codes c d)) s.3 ∙ sym a.3, (a.0.target, omega (arith, (formed_first.steps_in s.0 s.1).target_in), (formed_second.steps_in a.0 a.1).target_in, a.4, subst⁻¹ (λ z. R z a.0.target) (zero-add s.0.target) s.4)));
      },
    )

    matching_marked : (p q : ℕ) → p < states c → q < states d → R p q → Mark (beside c d).steps p (states c + q) 0
    unfolding Mark
    matching_marked p q h i r k = bisimulation_in (beside c d).steps Beside beside_bisimulation k p (states c + q) (q, h, i, refl, r)

  -- ---- partners

  module _ (p q : ℕ) where
    pub partners_exactly : p < states c → q < states d → Mark (beside c d).steps p (states c + q) 0 ↔ Partners c d p q
    partners_exactly h i = (forth, λ r. matching_marked (Of r.R) r.matching p q h i r.related)
      where
        forth : Mark (beside c d).steps p (states c + q) 0 → Partners c d p q
        forth m =
            let b = (equal_iff (states c + states d) (beside c d).steps (targets_below c d formed_first formed_second) p (states c + q) (omega arith) (omega arith)).0 m in
            record { of_first = h; of_second = i; R = across b.0 b.1; matching = across_matches b.0 b.1; related = across_i b.0 b.1 p q h i b.2 }

    pub partners_any : Partners c d p q ↔ PartnersAny c d p q
    partners_any = (λ r. (r.of_first, r.of_second, (Of r.R, r.matching, r.related)), λ (h, i, (R, m, r)). (partners_exactly h i).0 (matching_marked R m p q h i r))

pub self_partners : (c : Chart) (p : ℕ) → p < states c → Partners c c p p
self_partners c p h =
    record {
      of_first = h;
      of_second = h;
      R = eqb;
      matching = (
        record { forth = λ x y r t m e. (t, m, e ∙ eqb-true x y r, refl, eq-eqb t.target t.target refl) },
        record { forth = λ y x r t m e. (t, m, e ∙ sym (eqb-true x y r), refl, eq-eqb t.target t.target refl) },
      );
      related = eq-eqb p p refl;
    }

pub partners_swapped : (c d : Chart) (p q : ℕ) → Partners c d p q → Partners d c q p
partners_swapped c d p q r = record { of_first = r.of_second; of_second = r.of_first; R = λ x y. r.R y x; matching = (r.matching.1, r.matching.0); related = r.related }
