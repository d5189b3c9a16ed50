-- What the marks of two charts side by side say of the two: the comparison. Assumes nothing.
use Prim.Native.Nat.{ℕ, zero, suc, ◌+◌, ◌*◌, ◌<◌}
use mathlib.Core.Path.{◌≡◌, refl, ap, sym, subst, ◌∙◌}
use mathlib.Core.Bool.{true}
use mathlib.Core.List.{List}
use mathlib.Core.Logic.{◌↔◌}
use native.Mathlib.Nat.{zero-add}
use native.Mathlib.Omega.{arith}
use lib.ListN.{get_or}
use borrow.Author.Tests.{eqb-true, eq-eqb}
use Rattle.settle.specs.Finite.{pairs}
use Rattle.settle.specs.Chain.{Rounds}
use Rattle.settle.proofs.Test.{neg_i, neg_e, any_i, any_e}
use Rattle.settle.proofs.Finite.{below_i, below_e}
use Rattle.chart.specs.Chart.{Step, Chart, states, actions}
use Rattle.chart.specs.Layout.{WellFormed}
use Rattle.nearness.specs.Relation.{Near}
use Rattle.nearness.specs.Mark.{Mark, SmallestDepth}
use Rattle.nearness.proofs.Mark.{mark_unique, mark_turned, mark_zero, mark_depth}
use Rattle.nearness.proofs.Rounds.{mark_le, mark_max, near_rounds_le}
use Rattle.relation.specs.Promise.{byte_at}
use Rattle.relation.specs.declared.Matrix.{Matrix}
use Rattle.marks.specs.Promise.{MarksOf}
use Rattle.beside.specs.Chosen.{chosen}
use Rattle.beside.specs.Beside.{beside}
use Rattle.beside.specs.Partner.{Partners, FirstMatched, SecondMatched}
use Rattle.beside.proofs.Chosen.{chosen_i, chosen_e, chosen_rising}
use Rattle.beside.proofs.Steps.{targets_below}
use Rattle.beside.proofs.Partner.{partners_exactly}
use Rattle.compare.specs.Comparison.{Alone, Comparison}
use Rattle.compare.specs.Found.{partnerless}

-- where none is matched, all are listed
pub all_alone : (n : ℕ) (Matched : ℕ → Type 0) → ((p : ℕ) → Matched p → ⊥) → Alone n Matched (chosen (λ p. true) n)
all_alone n Matched f = record { rising = chosen_rising _ n; exactly = λ p. (λ m. ((chosen_e _ n p m).0, f p), λ h. chosen_i _ n p h.0 refl) }

-- where a state is matched just if its row has a 0 in the other's columns, the partnerless states are those that are not matched
module _ (matrix : List ℕ) (n low own other count : ℕ) (Matched : ℕ → Type 0) where
  partnerless_alone : ((p : ℕ) → p < own → Matched p ↔ ((q : ℕ) × (q < count) × (byte_at n matrix (low + p) (other + q) ≡ 0))) → Alone own Matched (partnerless matrix n low own other count)
  partnerless_alone zeros =
      record {
        rising = chosen_rising _ own;
        exactly = λ p. (
          λ m. (let a = chosen_e _ own p m in
              (a.0, λ h. neg_e _ a.1 (let z = (zeros p a.0).0 h in any_i _ (below_i count z.0 z.1) (eq-eqb _ _ (at p z.0 ∙ z.2))))),
          λ h. chosen_i _ own p h.0 (neg_i _ (λ t. let z = any_e _ _ t in h.1 ((zeros p h.0).1 (z.0, below_e count z.0 z.1, sym (at p z.0) ∙ eqb-true _ _ z.2)))),
        );
      }
    where
      at : (p q : ℕ) → get_or matrix ((low + p) * n + other + q) 0 ≡ byte_at n matrix (low + p) (other + q)
      at p q = ap (λ (i : ℕ). get_or matrix i 0) (omega arith)

-- n states and steps S, side by side
module _ (c d : Chart) where
  abbrev n : ℕ
  n = states c + states d

  abbrev S : List Step
  S = (beside c d).steps

-- a comparison is the mark, the rounds and the two lists: all else follows
module _ (c d : Chart) (formed_first : WellFormed c) (formed_second : WellFormed d) where
  deep : (mark : ℕ) → Mark (S c d) 0 (states c) mark → (mark ≡ 0 → ⊥) → SmallestDepth (actions (beside c d)) (S c d) 0 (states c) mark
  deep zero m f = absurd (f refl)
  deep (suc d') m f = (mark_depth (actions (beside c d)) (S c d) 0 (states c) d').0 m

  -- a state of the first with one of the second, whose number side by side is y
  zero_exactly : (p q y : ℕ) → y ≡ states c + q → p < states c → q < states d → {mark : ℕ} → Mark (S c d) p y mark → (mark ≡ 0) ↔ Partners c d p q
  zero_exactly p q y e h k {mark} m =
      let x = partners_exactly c d formed_first formed_second p q h k in
      let o = subst (λ (z : ℕ). Mark (S c d) p z mark) e m in
      (λ z. x.0 (subst (Mark (S c d) p (states c + q)) z o), λ r. mark_unique (S c d) p (states c + q) _ 0 o (x.1 r))

  pub comparison_by : {mark rounds : ℕ} {first second : List ℕ} → Mark (S c d) 0 (states c) mark → Rounds (pairs (n c d)) (Near (S c d)) rounds
      → Alone (states c) (FirstMatched c d) first → Alone (states d) (SecondMatched c d) second → Comparison c d mark first second rounds
  comparison_by {mark} {rounds} m r a b =
      let some : 0 < states c = formed_first.states_some in
      record {
        mark_is = m;
        rounds_are = r;
        first_alone = a;
        second_alone = b;
        zero_exactly_if_partners = zero_exactly 0 0 (states c) (omega arith) some formed_second.states_some m;
        partners_never_told_apart = λ z. (mark_zero (actions (beside c d)) (S c d) 0 (states c)).0 (subst (Mark (S c d) 0 (states c)) z m);
        else_smallest_depth = deep mark m;
        rounds_greatest = λ p q k h l o. mark_le (n c d) (S c d) (targets_below c d formed_first formed_second) p q h l rounds r.0 k o;
        rounds_borne_or_zero = mark_max (n c d) (S c d) rounds r;
        rounds_few = near_rounds_le (n c d) (S c d) (omega arith) rounds r;
      }

module _ (c d : Chart) (formed_first : WellFormed c) (formed_second : WellFormed d) {matrix : List ℕ} {given : Matrix} (w : MarksOf (n c d) (actions (beside c d)) (S c d) matrix given) where
  -- in either order
  zero_first : (p q : ℕ) → p < states c → q < states d → (byte_at (n c d) matrix p (states c + q) ≡ 0) ↔ Partners c d p q
  zero_first p q h k = zero_exactly c d formed_first formed_second p q (states c + q) refl h k (w.marks_are p (states c + q) (omega arith) (omega arith))

  zero_second : (p q : ℕ) → p < states c → q < states d → (byte_at (n c d) matrix (states c + q) p ≡ 0) ↔ Partners c d p q
  zero_second p q h k = zero_exactly c d formed_first formed_second p q (states c + q) refl h k (mark_turned (S c d) _ _ _ (w.marks_are (states c + q) p (omega arith) (omega arith)))

  first_alone : Alone (states c) (FirstMatched c d) (partnerless matrix (n c d) 0 (states c) (states c) (states d))
  first_alone =
      partnerless_alone matrix (n c d) 0 (states c) (states c) (states d) (FirstMatched c d) (λ p h. (
        λ r. (r.0, r.1.of_second, rw (zero-add p) ((zero_first p r.0 h r.1.of_second).1 r.1)),
        λ z. (z.0, (zero_first p z.0 h z.1).0 (rw (zero-add p) at z.2)),
      ))

  second_alone : Alone (states d) (SecondMatched c d) (partnerless matrix (n c d) (states c) (states d) 0 (states c))
  second_alone =
      partnerless_alone matrix (n c d) (states c) (states d) 0 (states c) (SecondMatched c d) (λ q h. (
        λ r. (r.0, r.1.of_first, rw (zero-add r.0) ((zero_second r.0 q r.1.of_first h).1 r.1)),
        λ z. (z.0, (zero_second z.0 q z.1 h).0 (rw (zero-add z.0) at z.2)),
      ))

  pub compared : Comparison c d (byte_at (n c d) matrix 0 (states c)) (partnerless matrix (n c d) 0 (states c) (states c) (states d)) (partnerless matrix (n c d) (states c) (states d) 0 (states c)) given.rounds
  compared =
      let some : 0 < states c = formed_first.states_some in
      let some₂ : 0 < states d = formed_second.states_some in
      comparison_by c d formed_first formed_second (w.marks_are 0 (states c) (omega arith) (omega arith)) w.rounds_are first_alone second_alone
