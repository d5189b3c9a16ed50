-- Where the rounds settle are the pairs of all strong bisimulations, or simulations, and no others; relations that are tests do as much as relations of
-- any kind. Assumes nothing.
use mathlib.Core.Path.{refl}
use mathlib.Core.Bool.{Bool, So}
use mathlib.Core.List.{List}
use mathlib.Core.Logic.Iff
use mathlib.Core.Logic.{◌↔◌}
use Prim.Native.Nat.{ℕ, zero, suc, ◌<◌}
use lib.Dec.{ltb}
use borrow.Author.Tests.{ltb-true, lt-ltb}
use Rattle.settle.specs.Test.{both}
use Rattle.settle.specs.Finite.{pairs}
use Rattle.settle.specs.Chain.{full, chain, GreatestSolution, Settled}
use Rattle.settle.proofs.Test.{both_i, both_e}
use Rattle.settle.proofs.Finite.{pairs_i}
use Rattle.settle.proofs.Chain.{greatest_solution, greatest_rounds}
use Rattle.chart.specs.Chart.{Step}
use Rattle.sheet.proofs.Meaning.{TargetsBelow}
use Rattle.nearness.specs.Relation.{Relation, turned, matched, simulation_round, bisimulation_round, Near, Simulating}
use Rattle.nearness.specs.Bisimulation.{IsSimulation, IsBisimulation, Of, Simulates, Bisimilar, SimulatesAny, BisimilarAny}
use Rattle.nearness.proofs.Matched.{matched_i, matched_e, simulation_monotone, bisimulation_monotone}

-- ---- a simulation of any kind is inside every round

module _ (steps : List Step) (R : ℕ → ℕ → Type 0) where
  matched_in : IsSimulation steps R → (B : Relation) → ((p q : ℕ) → R p q → So (B (p, q))) → (p q : ℕ) → R p q → So (matched steps B p q)
  matched_in s B f p q r = matched_i steps B p q (λ t m e. let a = s.forth p q r t m e in (a.0, a.1, a.2, a.3, f _ _ a.4))

  pub simulation_in : IsSimulation steps R → (k p q : ℕ) → R p q → So (Simulating steps k (p, q))
  unfolding chain full simulation_round
  simulation_in s zero p q r = refl
  simulation_in s (suc k) p q r = matched_in s (Simulating steps k) (simulation_in s k) p q r

module _ (steps : List Step) (R : ℕ → ℕ → Type 0) where
  pub bisimulation_in : IsBisimulation steps R → (k p q : ℕ) → R p q → So (Near steps k (p, q))
  unfolding chain full bisimulation_round
  bisimulation_in b zero p q r = refl
  bisimulation_in b (suc k) p q r =
      both_i (matched_in steps R b.0 (Near steps k) (bisimulation_in b k) p q r)
      (matched_in steps (λ x y. R y x) b.1 (turned (Near steps k)) (λ x y. bisimulation_in b k y x) q p r)

-- ---- where the rounds settle

abbrev flat : (ℕ → ℕ → Bool) → Relation
flat R x = R x.0 x.1

module _ (n : ℕ) (steps : List Step) (targets : TargetsBelow n steps) where
  within : Relation → ℕ → ℕ → Bool
  within B p q = both (ltb p n) (both (ltb q n) (B (p, q)))

  within_i : (B : Relation) (p q : ℕ) → p < n → q < n → So (B (p, q)) → So (within B p q)
  unfolding within
  within_i B p q h i t = both_i (lt-ltb p n h) (both_i (lt-ltb q n i) t)

  within_e : (B : Relation) (p q : ℕ) → So (within B p q) → (p < n) × (q < n) × So (B (p, q))
  unfolding within
  within_e B p q t = let a = both_e _ _ t in let b = both_e _ _ a.1 in (ltb-true p n a.0, ltb-true q n b.0, b.1)

  simulation_of : (B : Relation) (R : ℕ → ℕ → Type 0) → ((p q : ℕ) → R p q → So (matched steps B p q)) → ((p q : ℕ) → p < n → q < n → So (B (p, q)) → R p q) → IsSimulation steps R
  simulation_of B R f g = record { forth = λ p q r t m e. let a = matched_e steps B p q (f p q r) t m e in (a.0, a.1, a.2, a.3, g _ _ (targets t m) (targets a.0 a.1) a.4) }

  module _ (p q : ℕ) (p_in : p < n) (q_in : q < n) where
    pub simulates_iff : (k : ℕ) → Settled (pairs n) (Simulating steps) k → So (Simulating steps k (p, q)) ↔ Simulates steps p q
    unfolding simulation_round
    simulates_iff k s = Iff.trans (greatest_solution (pairs n) (simulation_round steps) (simulation_monotone n steps targets) k s (p, q) (pairs_i n p q p_in q_in)) (forth, back)
      where
        forth : GreatestSolution (pairs n) (simulation_round steps) (p, q) → Simulates steps p q
        forth r =
            let S = r.0 in
            let next : (x y : ℕ) → So (within S x y) → So (simulation_round steps S (x, y)) = λ x y t. let b = within_e S x y t in r.1 (x, y) (pairs_i n x y b.0 b.1) b.2 in
            (within S, simulation_of S (Of (within S)) next (within_i S), within_i S p q p_in q_in r.2)

        back : Simulates steps p q → GreatestSolution (pairs n) (simulation_round steps) (p, q)
        back r = (flat r.0, λ x m t. matched_in steps (Of r.0) r.1 (flat r.0) (λ a b v. v) x.0 x.1 t, r.2)

    pub bisimilar_iff : (k : ℕ) → Settled (pairs n) (Near steps) k → So (Near steps k (p, q)) ↔ Bisimilar steps p q
    unfolding bisimulation_round
    bisimilar_iff k s = Iff.trans (greatest_solution (pairs n) (bisimulation_round steps) (bisimulation_monotone n steps targets) k s (p, q) (pairs_i n p q p_in q_in)) (forth, back)
      where
        forth : GreatestSolution (pairs n) (bisimulation_round steps) (p, q) → Bisimilar steps p q
        forth r =
            let S = r.0 in
            let next : (x y : ℕ) → So (within S x y) → So (bisimulation_round steps S (x, y)) = λ x y t. let b = within_e S x y t in r.1 (x, y) (pairs_i n x y b.0 b.1) b.2 in
            (within S, (simulation_of S (Of (within S)) (λ x y t. (both_e _ _ (next x y t)).0) (within_i S), simulation_of (turned S) (λ x y. So (within S y x)) (λ x y t. (both_e _ _ (next y x t)).1) (λ x y a b c. within_i S y x b a c)), within_i S p q p_in q_in r.2)

        back : Bisimilar steps p q → GreatestSolution (pairs n) (bisimulation_round steps) (p, q)
        back r = (flat r.0, λ x m t. both_i (matched_in steps (Of r.0) r.1.0 (flat r.0) (λ a b v. v) x.0 x.1 t) (matched_in steps (λ a b. So (r.0 b a)) r.1.1 (turned (flat r.0)) (λ a b v. v) x.1 x.0 t), r.2)

    -- ---- relations of any kind

    pub simulates_any : Simulates steps p q ↔ SimulatesAny steps p q
    simulates_any =
        let k = greatest_rounds (pairs n) (simulation_round steps) (simulation_monotone n steps targets) in
        (λ r. (Of r.0, r.1, r.2), λ r. (simulates_iff k.0 k.2.0).0 (simulation_in steps r.0 r.1 k.0 p q r.2))

    pub bisimilar_any : Bisimilar steps p q ↔ BisimilarAny steps p q
    bisimilar_any =
        let k = greatest_rounds (pairs n) (bisimulation_round steps) (bisimulation_monotone n steps targets) in
        (λ r. (Of r.0, r.1, r.2), λ r. (bisimilar_iff k.0 k.2.0).0 (bisimulation_in steps r.0 r.1 k.0 p q r.2))
