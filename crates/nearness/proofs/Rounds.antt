-- The rounds of simulation are at most n * n - n. The rounds of bisimulation are the greatest of the marks, and at most n - 1: each round but the last
-- makes one more state the least of its class. Assumes nothing.
use mathlib.Core.Path.{◌≡◌, refl, sym, subst, ◌∙◌}
use mathlib.Core.Bool.{Bool, true, false, So}
use mathlib.Core.List.{List}
use mathlib.Core.Logic.{◌⊎◌, inl, inr, ◌↔◌, ⊎_elim}
use Prim.Native.Nat.{ℕ, zero, suc, ◌*◌, ◌-◌, ◌≤◌, ◌<◌, zero-le}
use native.Mathlib.Decide.{dec_le}
use native.Mathlib.Omega.{arith}
use Rattle.settle.specs.Test.{neg, all_of}
use Rattle.settle.specs.Finite.{below, pairs}
use Rattle.settle.specs.Chain.{Least, Inside, full, chain, Settled, Rounds}
use Rattle.settle.proofs.Test.{never, neg_i, neg_e, both_e, tested, stable, all_i, all_e, each_e, each_n, count_miss}
use Rattle.settle.proofs.Finite.{below_i, below_e, below_length, pairs_i, pairs_e_lem, differ, differ_n, differ_count}
use Rattle.settle.proofs.Chain.{find_least, same_of, stands_still, rounds_by, rounds_unique, stays, greatest_rounds_in}
use Rattle.chart.specs.Chart.{Step}
use Rattle.sheet.proofs.Meaning.{TargetsBelow}
use Rattle.nearness.specs.Relation.{simulation_round, bisimulation_round, Near, Simulating}
use Rattle.nearness.specs.Bisimulation.{Bisimilar}
use Rattle.nearness.specs.Mark.{Mark, bears_mark}
use Rattle.nearness.proofs.Matched.{simulation_monotone, bisimulation_monotone}
use Rattle.nearness.proofs.Formulas.{near_refl, near_sym, near_trans, near_down}
use Rattle.nearness.proofs.Mark.{mark_drop}
use Rattle.nearness.proofs.Bisimulation.{simulation_in, bisimilar_iff}

-- ---- simulation: a state simulates itself in every round, so only pairs of two that differ can change

module _ (n : ℕ) (steps : List Step) (targets : TargetsBelow n steps) where
  simulates_itself : (k p : ℕ) → So (Simulating steps k (p, p))
  simulates_itself k p = simulation_in steps (λ x y. x ≡ y) (record { forth = λ x y e t m f. (t, m, f ∙ e, refl, refl) }) k p p refl

  pub simulation_rounds_lem : (k : ℕ) × (k ≤ n * n - n) × Rounds (pairs n) (Simulating steps) k
  simulation_rounds_lem = let r = greatest_rounds_in (pairs n) (simulation_round steps) (simulation_monotone n steps targets) differ (λ x m. change x (tested (differ x))) in (r.0, omega (arith, differ_count n), r.2)
    where
      change : (x : ℕ × ℕ) → So (differ x) ⊎ (So (differ x) → ⊥) → So (differ x) ⊎ ((k : ℕ) → So (Simulating steps k x))
      change x (inl d) = inl d
      change x (inr f) = inr (λ k. subst (λ q. So (Simulating steps k (x.0, q))) (differ_n x f) (simulates_itself k x.0))

  pub simulation_rounds_le : (k : ℕ) → Rounds (pairs n) (Simulating steps) k → k ≤ n * n - n
  simulation_rounds_le k h = let r = simulation_rounds_lem in omega (arith, rounds_unique (pairs n) (Simulating steps) k r.0 h r.2)

-- ---- bisimulation: a state is a head where it is the least of its class

module _ (steps : List Step) where
  head : ℕ → ℕ → Bool
  head k p = all_of (λ q. neg (Near steps k (q, p))) (below p)

  head_e : (k p q : ℕ) → So (head k p) → q < p → So (Near steps k (q, p)) → ⊥
  unfolding head
  head_e k p q h l = neg_e _ (all_e _ h (below_i p q l))

  head_i : (k p : ℕ) → ((q : ℕ) → q < p → So (Near steps k (q, p)) → ⊥) → So (head k p)
  unfolding head
  head_i k p f = all_i _ (below p) (λ q m. neg_i _ (f q (below_e p q m)))

  head_up : (k p : ℕ) → So (head k p) → So (head (suc k) p)
  head_up k p h = head_i (suc k) p (λ q l t. head_e k p q h l (near_down steps k (suc k) _ _ (omega arith) t))

  head_of : (k p : ℕ) → (r : ℕ) × (r ≤ p) × So (Near steps k (r, p)) × So (head k r)
  head_of k p =
      let x = find_least (λ r. So (Near steps k (r, p))) (λ r. tested (Near steps k (r, p))) p (near_refl steps k p) in
      (x.0, x.1, x.2.0, head_i k x.0 (λ q l t. x.2.1 q l (near_trans steps k _ _ _ t x.2.0)))

  one_head : (k r s : ℕ) → So (head k r) → So (head k s) → So (Near steps k (r, s)) → r ≡ s
  one_head k r s h i t =
      let a : r < s → ⊥ = λ l. head_e k s r i l t in
      let b : s < r → ⊥ = λ l. head_e k r s h l (near_sym steps k _ _ t) in
      omega arith

  -- while the heads stand still, so do the rounds
  heads_still : (n k : ℕ) → Inside (below n) (head (suc k)) (head k) → Inside (pairs n) (Near steps k) (Near steps (suc k))
  heads_still n k f x m t =
      let b = pairs_e_lem n x m in
      let r = head_of (suc k) x.0 in
      let s = head_of (suc k) x.1 in
      let rp = near_down steps k (suc k) _ _ (omega arith) r.2 in
      let qs = near_sym steps k _ _ (near_down steps k (suc k) _ _ (omega arith) s.2) in
      let e = one_head k r.0 s.0 (f r.0 (below_i n _ (omega arith)) r.3) (f s.0 (below_i n _ (omega arith)) s.3) (near_trans steps k _ _ _ (near_trans steps k _ _ _ rp t) qs) in
      near_trans steps (suc k) _ _ _ (near_sym steps (suc k) _ _ r.2) (subst (λ z. So (Near steps (suc k) (z, x.1))) (sym e) s.2)

not_zero : ℕ → Bool
not_zero zero = false
not_zero (suc p) = true

module _ (n : ℕ) (steps : List Step) (some_state : 0 < n) where
  pub near_rounds : (k : ℕ) × (k ≤ n - 1) × Rounds (pairs n) (Near steps) k
  unfolding head below all_of not_zero
  near_rounds =
      let r = stands_still (below n) not_zero (head steps) (λ k p m. head_up steps k p) (λ k p m t. off k p) in
      let j = rounds_by (pairs n) (Near steps) r.0 (same_of (pairs n) _ _ (heads_still steps n r.0 r.2) (λ x m. near_down steps _ _ _ _ (omega arith))) in
      (j.0, omega (arith, count_miss not_zero (below_i n 0 some_state) never, below_length n), j.2)
    where
      off : (k p : ℕ) → So (head steps k p) ⊎ So (not_zero p)
      off k zero = inl refl
      off k (suc p) = inr refl

  pub near_rounds_le : (k : ℕ) → Rounds (pairs n) (Near steps) k → k ≤ n - 1
  near_rounds_le k h = let r = near_rounds in omega (arith, rounds_unique (pairs n) (Near steps) k r.0 h r.2)

-- ---- the rounds are the greatest of the marks, or zero

module _ (n : ℕ) (steps : List Step) (targets : TargetsBelow n steps) where
  module _ (p q : ℕ) (p_in : p < n) (q_in : q < n) where
    module _ (k : ℕ) (h : Settled (pairs n) (Near steps) k) where
      near_stays : (e : ℕ) → k ≤ e → Near steps k (p, q) ≡ Near steps e (p, q)
      near_stays e l = stays (pairs n) (bisimulation_round steps) (bisimulation_monotone n steps targets) full k h e l (p, q) (pairs_i n p q p_in q_in)

      -- no pair is dropped after
      near_all : So (Near steps k (p, q)) → (e : ℕ) → So (Near steps e (p, q))
      near_all t e = elim (dec_le k e) [ yes l ↦ sym (near_stays e l) ∙ t | no f ↦ near_down steps e k _ _ (omega arith) t ]

      pub mark_le : (d : ℕ) → Mark steps p q d → d ≤ k
      unfolding Mark
      mark_le zero m = zero-le
      mark_le (suc d) m = elim (dec_le (suc d) k) [ yes l ↦ l | no f ↦ absurd (m.0 (near_all (near_stays d (omega arith) ∙ stable _ (m.1 d (omega arith))) (suc d))) ]

      pub mark_test : (d : ℕ) → So (bears_mark steps k (p, q) d) → Mark steps p q d
      unfolding Mark bears_mark
      mark_test zero t = near_all t
      mark_test (suc d) t = let a = both_e _ _ t in mark_drop steps p q d a.1 (neg_e _ a.0)

    -- each pair bears a mark
    pub mark_is : (d : ℕ) × Mark steps p q d
    unfolding Mark chain full
    mark_is = elim (tested (Near steps r.0 (p, q))) [ inl t ↦ (0, near_all r.0 r.2.0 t) | inr f ↦ let x = find_least (λ e. So (Near steps e (p, q)) → ⊥) (λ e. ⊎_elim (λ t. inr (λ g. g t)) inl (tested (Near steps e (p, q)))) r.0 f in go x.0 x.2 ]
      where
        r : (k : ℕ) × (k ≤ n - 1) × Rounds (pairs n) (Near steps) k
        r = near_rounds n steps (omega arith)

        go : (d : ℕ) → Least (λ e. So (Near steps e (p, q)) → ⊥) d → (d : ℕ) × Mark steps p q d
        go zero l = absurd (l.0 refl)
        go (suc d) l = (suc d, l)

    -- 0 just at the pairs of all strong bisimulations
    pub equal_iff : Mark steps p q 0 ↔ Bisimilar steps p q
    unfolding Mark
    equal_iff =
        let r = near_rounds n steps (omega arith) in
        (λ m. (bisimilar_iff n steps targets p q p_in q_in r.0 r.2.0).0 (m r.0), λ b. near_all r.0 r.2.0 ((bisimilar_iff n steps targets p q p_in q_in r.0 r.2.0).1 b))

module _ (n : ℕ) (steps : List Step) where
  pub mark_max : (k : ℕ) → Rounds (pairs n) (Near steps) k → (k ≡ 0) ⊎ ((p : ℕ) × (q : ℕ) × (p < n) × (q < n) × Mark steps p q k)
  mark_max zero h = inl refl
  mark_max (suc k) h =
      let fall : Inside (pairs n) (Near steps (suc k)) (Near steps k) = λ x m. near_down steps _ _ _ _ (omega arith) in
      let r = each_n (Near steps k) (Near steps (suc k)) (pairs n) (λ t. h.1 k (omega arith) (same_of (pairs n) _ _ (λ x m. each_e _ _ t m) fall)) in
      let b = pairs_e_lem n r.0 r.1 in
      inr (r.0.0, r.0.1, b.0, b.1, mark_drop steps r.0.0 r.0.1 k r.2 r.3)
