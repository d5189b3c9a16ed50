-- What the worked out marks mean, and what follows of their promise: no refusal but of the chart or the buffer, and no choice. Assumes nothing.
use Prim.Native.Nat.{ℕ, zero, suc, ◌<◌}
use mathlib.Core.Path.{◌≡◌, refl, subst}
use mathlib.Core.List.{List}
use mathlib.Core.Logic.{inl, inr, ⊎_elim}
use native.Mathlib.Omega.{arith}
use Rattle.chart.specs.Chart.{Step}
use Rattle.sheet.proofs.Meaning.{TargetsBelow}
use Rattle.nearness.specs.Relation.{Near}
use Rattle.nearness.specs.Mark.{Mark, SmallestDepth}
use Rattle.nearness.proofs.Mark.{mark_unique, mark_zero, mark_depth}
use Rattle.nearness.proofs.Rounds.{near_rounds, near_rounds_le, mark_le, mark_max, equal_iff}
use Rattle.relation.specs.Promise.{byte_at, AlwaysAnswered, Never15, Determined}
use Rattle.relation.specs.Settles.{Settles}
use Rattle.relation.specs.Working as Relation
use Rattle.relation.specs.declared.Matrix.{Matrix}
use Rattle.relation.specs.declared.Settled.{Settled}
use Rattle.relation.proofs.Rounding.{working_rounds, working_cell}
use Rattle.relation.proofs.Promise as Matrices
use Rattle.classes.specs.Marking.{Cell, Worked}
use Rattle.marks.specs.Promise.{MarksOf}

-- ---- what the worked out marks mean

abbrev Working : List Step → ℕ → List ℕ → List ℕ → Matrix → Type 0
Working steps = Relation.Working (Cell steps) (Near steps)

pub worked : (steps : List Step) (n : ℕ) {old new : List ℕ} (s : Settled) → Settles n (Near steps) s → Worked steps n old new s.rounds → Working steps n old new (record { states = n; rounds = s.rounds })
worked steps n s r w = record { states_said = refl; done = w; settled = r.rounds_are.0 }

module _ (n m : ℕ) (steps : List Step) (some_state : 0 < n) (targets : TargetsBelow n steps) {old new : List ℕ} {given : Matrix} (w : Working steps n old new given) where
  mark_of : (p q : ℕ) → p < n → q < n → Mark steps p q (byte_at n new p q)
  mark_of = working_cell w

  deep : (p q d : ℕ) → (d ≡ 0 → ⊥) → Mark steps p q d → SmallestDepth m steps p q d
  deep p q zero f h = absurd (f refl)
  deep p q (suc d) f h = (mark_depth m steps p q d).0 h

  pub marks_of : MarksOf n m steps new given
  marks_of =
      record {
        states_said = w.states_said;
        marks_are = mark_of;
        rounds_are = working_rounds w;
        zero_exactly_if_equal = λ p q h k. (
          λ e. (equal_iff n steps targets p q h k).0 (subst (Mark steps p q) e (mark_of p q h k)),
          λ b. mark_unique steps p q _ 0 (mark_of p q h k) ((equal_iff n steps targets p q h k).1 b),
        );
        equal_never_told_apart = λ p q h k e. (mark_zero m steps p q).0 (subst (Mark steps p q) e (mark_of p q h k));
        else_smallest_depth = λ p q h k f. deep p q _ f (mark_of p q h k);
        rounds_greatest = λ p q h k. mark_le n steps targets p q h k given.rounds w.settled _ (mark_of p q h k);
        rounds_borne_or_zero = ⊎_elim inl (λ b. inr (b.0, b.1, b.2, b.3, mark_unique steps b.0 b.1 _ _ (mark_of b.0 b.1 b.2 b.3) b.4)) (mark_max n steps given.rounds (working_rounds w));
        rounds_few = near_rounds_le n steps some_state given.rounds (working_rounds w);
      }

-- ---- the rounds settle, so 15 never comes, and the promise leaves no choice

settles : Matrices.Settles Near
settles n steps some few targets = let k = near_rounds n steps some in (k.0, omega arith, k.2.0)

pub always_answered : AlwaysAnswered MarksOf Near
always_answered = Matrices.always_answered settles

pub never_15 : Never15 MarksOf Near
never_15 = Matrices.never_15 settles

alike : Matrices.Alike MarksOf
alike n m steps a b g h s u = (
  Matrices.same_matrix n (Near steps) g h s.states_said u.states_said s.rounds_are u.rounds_are,
  λ p q i j. mark_unique steps p q _ _ (s.marks_are p q i j) (u.marks_are p q i j),
)

pub marks_determined : Determined MarksOf Near
marks_determined = Matrices.matrix_determined settles alike
