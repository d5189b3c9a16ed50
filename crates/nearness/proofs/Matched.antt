-- What makes the steps of one state matched by those of another, and what follows where they are and where they are not; both rounds are monotone on
-- the pairs of states. Assumes nothing.
use mathlib.Core.Path.{◌≡◌}
use mathlib.Core.Bool.{So}
use mathlib.Core.List.{List, Memᴰ as Mem}
use Prim.Native.Nat.{ℕ, ◌<◌}
use borrow.Author.Tests.{eqb-true, eq-eqb}
use Rattle.settle.specs.Finite.{pairs}
use Rattle.settle.specs.Chain.{Monotone}
use Rattle.settle.proofs.Test.{both_i, both_e, some_i, some_e, each_i, each_e, each_n}
use Rattle.settle.proofs.Finite.{pairs_i}
use Rattle.chart.specs.Chart.{Step}
use Rattle.sheet.specs.Meaning.{leaves}
use Rattle.sheet.proofs.Meaning.{TargetsBelow, leaves_i, leaves_e}
use Rattle.nearness.specs.Relation.{Relation, turned, matched, simulation_round, bisimulation_round}

module _ (steps : List Step) (R : Relation) (p q : ℕ) where
  pub matched_i : ((t : Step) → Mem t steps → t.source ≡ p → (u : Step) × Mem u steps × (u.source ≡ q) × (u.action ≡ t.action) × So (R (t.target, u.target))) → So (matched steps R p q)
  unfolding matched
  matched_i f = each_i _ _ _ (λ t m e. let r = f t m (eqb-true _ _ e) in some_i _ _ r.1 (leaves_i q t.action r.0 r.2 r.3) r.4)

  pub matched_e : So (matched steps R p q) → (t : Step) → Mem t steps → t.source ≡ p → (u : Step) × Mem u steps × (u.source ≡ q) × (u.action ≡ t.action) × So (R (t.target, u.target))
  unfolding matched
  matched_e h t m e = let r = some_e _ _ _ (each_e _ _ h m (eq-eqb _ _ e)) in let d = leaves_e q t.action r.0 r.2 in (r.0, r.1, d.0, d.1, r.3)

  -- a step that is not matched
  pub matched_n : (So (matched steps R p q) → ⊥) → (t : Step) × Mem t steps × (t.source ≡ p) × ((u : Step) → Mem u steps → So (leaves q t.action u) → So (R (t.target, u.target)) → ⊥)
  unfolding matched
  matched_n f = let r = each_n _ _ _ f in (r.0, r.1, eqb-true _ _ r.2, λ u m v h. r.3 (some_i _ _ m v h))

module _ (n : ℕ) (steps : List Step) (targets : TargetsBelow n steps) where
  matched_monotone : (R S : Relation) → ((p q : ℕ) → p < n → q < n → So (R (p, q)) → So (S (p, q))) → (p q : ℕ) → So (matched steps R p q) → So (matched steps S p q)
  matched_monotone R S f p q h = matched_i steps S p q (λ t m e. let r = matched_e steps R p q h t m e in (r.0, r.1, r.2, r.3, f _ _ (targets t m) (targets r.0 r.1) r.4))

  pub simulation_monotone : Monotone (pairs n) (simulation_round steps)
  unfolding simulation_round
  simulation_monotone R S i x m h = matched_monotone R S (λ p q a b. i (p, q) (pairs_i n p q a b)) x.0 x.1 h

  pub bisimulation_monotone : Monotone (pairs n) (bisimulation_round steps)
  unfolding bisimulation_round
  bisimulation_monotone R S i x m h =
      let d = both_e _ _ h in
      both_i (matched_monotone R S (λ p q a b. i (p, q) (pairs_i n p q a b)) x.0 x.1 d.0)
      (matched_monotone (turned R) (turned S) (λ p q a b. i (q, p) (pairs_i n q p b a)) x.1 x.0 d.1)
