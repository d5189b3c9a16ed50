-- The marks after k rounds, a round more, and where the rounds end.
use Prim.Native.Nat.{ℕ, zero, suc, ◌+◌, ◌-◌, ◌*◌, ◌^◌, ◌≤◌, ◌<◌}
use mathlib.Core.Path.{◌≡◌, refl, sym, subst⁻¹, ◌∙◌}
use mathlib.Core.Bool.{Bool, true, false, So}
use mathlib.Core.List.{List, Memᴰ as Mem}
use native.Mathlib.Numerals.{add-one}
use native.Mathlib.Omega.{arith}
use native.Mathlib.Decide.{dec_le}
use borrow.Author.Count.{below_more}
use lib.ListN.{length, get_or}
use lib.Pow.{pow_pos}
use Rattle.settle.specs.Test.{pick, both, neg, each}
use Rattle.settle.specs.Finite.{below, pairs}
use Rattle.settle.specs.Chain.{Settled, Rounds, chain, full}
use Rattle.settle.proofs.Test.{never, ext, both_i, both_e, neg_i, neg_e}
use Rattle.settle.proofs.Chain.{stays}
use Rattle.chart.specs.Chart.{Step}
use Rattle.chart.specs.Layout.{StepIn}
use Rattle.words.specs.Words.{member}
use Rattle.words.proofs.Words.{no_member, word_small, word_of_lem}
use Rattle.steps.specs.Table.{Table}
use Rattle.nearness.specs.Relation.{Near, bisimulation_round}
use Rattle.nearness.specs.Mark.{bears_mark}
use Rattle.nearness.proofs.Matched.{bisimulation_monotone}
use Rattle.nearness.proofs.Formulas.{near_down}
use Rattle.nearness.proofs.Rounds.{near_rounds, mark_test}
use Rattle.relation.specs.Rows.{Holds, Keeps}
use Rattle.relation.specs.Cells.{pair_at}
use Rattle.relation.specs.Settles.{Settles}
use Rattle.relation.proofs.Cells.{row_in, column_in}
use Rattle.classes.specs.Splitting.{Sharing, undivided}
use Rattle.classes.specs.Marking.{Cleared, fallen, is_new, shares_row, PutMarks, Worked}
use Rattle.classes.proofs.Rounds.{Pending, pending_first, round_holds, pending_more, none_settled, some_unsettled, sharing_first, alone_still, sharing_more, alone_settled}

-- a cell is 0 where the pair is in Rk, and else the pair's mark, which is at most k
abbrev pub Marked : List Step → ℕ → ℕ × ℕ → ℕ → Type 0
Marked steps k x byte = (byte ≤ k) × So (bears_mark steps k x byte)

pub marked_first : (steps : List Step) (x : ℕ × ℕ) → Marked steps 0 x 0
unfolding bears_mark chain full
marked_first steps x = (omega arith, refl)

-- a pair that falls in a round bears its number
pub marked_round : (steps : List Step) (k : ℕ) (x : ℕ × ℕ) (byte : ℕ) → Marked steps k x byte → Marked steps (suc k) x (pick (both (Near steps k x) (neg (Near steps (suc k) x))) (suc k) byte)
unfolding bears_mark both neg
marked_round steps k x zero w = go (Near steps k x) (Near steps (suc k) x) w.1 refl
  where
    go : (a b : Bool) → So a → Near steps (suc k) x ≡ b → Marked steps (suc k) x (pick (both a (neg b)) (suc k) 0)
    go true true t e = (omega arith, e)
    go true false t e = (omega arith, both_i (neg_i _ (λ g. never (sym e ∙ g))) w.1)
    go false b t e = never t
marked_round steps k x (suc d) w =
    let out : Near steps k x ≡ false = ext (λ t. absurd (neg_e _ (both_e _ _ w.1).0 (near_down steps (suc d) k x.0 x.1 w.0 t))) never in
    subst⁻¹ (λ (a : Bool). Marked steps (suc k) x (pick (both a (neg (Near steps (suc k) x))) (suc k) (suc d))) out (omega (arith, w.0), w.1)

-- the marks after k rounds, in a buffer that was cleared for them
pub record Marks (steps : List Step) (n : ℕ) (old new : List ℕ) (k : ℕ) : Type 0 where
  pub same_length : length new ≡ length old
  pub after : (y : ℕ) → n * n ≤ y → get_or new y 0 ≡ get_or old y 0
  pub cells : (y : ℕ) → y < n * n → Marked steps k (pair_at n y) (get_or new y 0)

marks_first : (steps : List Step) {n : ℕ} {old new : List ℕ} → Cleared (n * n) old new → Marks steps n new new 0
marks_first steps c = record { same_length = refl; after = λ y h. refl; cells = λ y h. rw (c.zeros y h) (marked_first steps _) }

marks_round : (steps : List Step) (k : ℕ) {n : ℕ} {near next old mid new : List ℕ} → Holds n (Near steps k) near → Holds n (Near steps (suc k)) next
    → PutMarks n near next (suc k) mid new → Marks steps n old mid k → Marks steps n old new (suc k)
marks_round steps k {n} h g put w =
    record {
      same_length = put.same_length ∙ w.same_length;
      after = λ y l. put.after y l ∙ w.after y l;
      cells = λ y l. rw (put.cells y l, h.bits _ _ (row_in n y l) (column_in n y l), g.bits _ _ (row_in n y l) (column_in n y l)) (marked_round steps k (pair_at n y) _ (w.cells y l));
    }

-- k rounds are done, before each of which the relations had not settled: the rows hold Rk, the cells its marks
pub record Going (steps : List Step) (n m : ℕ) (into old new near : List ℕ) (made shared k : ℕ) : Type 0 where
  pub holds : Holds n (Near steps k) near
  pub pending : Pending into n m near made
  pub sharing : Sharing shared near
  pub states : shared < 2 ^ n
  pub marks : Marks steps n old new k
  pub unsettled : (j : ℕ) → j < k → Settled (pairs n) (Near steps) j → ⊥

pub going_first : (steps : List Step) (n m : ℕ) (into : List ℕ) {old new near : List ℕ} {all : ℕ} → 0 < n → Cleared (n * n) old new → Holds n full near → all ≡ 2 ^ n - 1 → Going steps n m into new new near 1 all 0
unfolding chain
going_first steps n m into some cleared h e =
    record {
      holds = h;
      pending = pending_first into n m some h;
      sharing = rw e (sharing_first n h);
      states = omega (arith, pow_pos n);
      marks = marks_first steps cleared;
      unsettled = λ j l. absurd (omega arith);
    }

module _ (steps : List Step) (n m : ℕ) (few : n ≤ 64) (in_chart : (t : Step) → Mem t steps → StepIn n m t) {into : List ℕ} (T : Table n m steps into) where
  targets : (t : Step) → Mem t steps → t.target < n
  targets t i = (in_chart t i).target_in

  still : (j : ℕ) → Settled (pairs n) (Near steps) j → Settled (pairs n) (Near steps) (suc j)
  still j r x i = sym (r x i) ∙ stays (pairs n) (bisimulation_round steps) (bisimulation_monotone n steps targets) full j r (suc (suc j)) (omega arith) x i

  -- where the relations have settled after j rounds, the marks of as many or one more are all
  marks_worked : {first old new : List ℕ} (j k : ℕ) → Rounds (pairs n) (Near steps) j → Settled (pairs n) (Near steps) k → Cleared (n * n) first old → Marks steps n old new k → Worked steps n first new j
  marks_worked j k r s z w =
      record {
        same_length = w.same_length ∙ z.same_length;
        after = λ y h. w.after y h ∙ z.after y h;
        cells = λ y h. mark_test n steps targets _ _ (row_in n y h) (column_in n y h) k s _ (w.cells y h).1;
        unsettled = r.1;
      }

  module _ {old new near : List ℕ} {made shared k : ℕ} (w : Going steps n m into old new near made shared k) where
    -- no more rounds are done than the states allow
    pub going_few : 0 < n → k < n
    going_few some = let r = near_rounds n steps some in elim (dec_le k r.0) [ yes l ↦ omega (arith, r.1) | no g ↦ absurd (w.unsettled r.0 (omega arith) r.2.0) ]

    -- no state shares its class: the rounds are all
    module _ (e : shared ≡ 0) where
      rounds_alone : Rounds (pairs n) (Near steps) k
      rounds_alone = (alone_settled n k steps w.holds (rw e at w.sharing), w.unsettled)

      pub alone_settles : Settles n (Near steps) (record { rows = near; rounds = k })
      alone_settles = record { rows_hold = w.holds; rounds_are = rounds_alone }

      pub alone_worked : {first : List ℕ} → Cleared (n * n) first old → Worked steps n first new k
      alone_worked z = marks_worked k k rounds_alone rounds_alone.0 z w.marks

    -- one round more
    module _ {next : List ℕ} (keeps : Keeps n (λ p q. each (member made) (λ x. undivided into n m (get_or near x 0) p q) (below 64)) near next) where
      holds_next : Holds n (Near steps (suc k)) next
      holds_next = round_holds n m few steps in_chart into T k near w.holds made w.pending keeps

      marks_next : {last : List ℕ} → PutMarks n near next (k + 1) new last → Marks steps n old last (suc k)
      marks_next put = marks_round steps k w.holds holds_next (rw (add-one k) at put) w.marks

      -- nothing falls from a state that is alone
      pub going_alone : (p : ℕ) → (So (member shared p) → ⊥) → fallen n (get_or near p 0) (get_or next p 0) ≡ 0
      going_alone = alone_still n m few steps in_chart into T k near w.holds made w.pending keeps shared w.sharing

      module _ (made' : ℕ) (is_new_lem : (p : ℕ) → member made' p ≡ is_new n (get_or near p 0) (get_or next p 0) p) where
        pub going_more : {last : List ℕ} (shared' : ℕ) → ((p : ℕ) → member shared' p ≡ both (member shared p) (shares_row (get_or next p 0) p))
            → made' < 2 ^ 64 → shared' < 2 ^ 64 → (made' ≡ 0 → ⊥) → PutMarks n near next (k + 1) new last → Going steps n m into old last next made' shared' (k + 1)
        unfolding both
        going_more shared' is_shared size room f put = rw (add-one k) (record {
          holds = holds_next;
          pending = pending_more n m few steps in_chart into T k near w.holds made w.pending keeps made' is_new_lem;
          sharing = sharing_more n m few steps in_chart into T k near w.holds made w.pending keeps shared w.sharing shared' is_shared;
          states = word_small n shared' _ (word_of_lem n shared' (member shared') few room (λ x. refl) (λ x l. is_shared x ∙ rw (no_member n shared x w.states l)));
          marks = marks_next put;
          unsettled = λ j l. below_more _ _ w.unsettled (some_unsettled n m few steps in_chart into T k near w.holds made w.pending keeps made' is_new_lem size f) j (omega arith);
        })

        -- it made no class: the rounds before it are all
        module _ (e : made' ≡ 0) where
          rounds_done : Rounds (pairs n) (Near steps) k
          rounds_done = (none_settled n m few steps in_chart into T k near w.holds made w.pending keeps made' is_new_lem e, w.unsettled)

          pub done_settles : Settles n (Near steps) (record { rows = near; rounds = k })
          done_settles = record { rows_hold = w.holds; rounds_are = rounds_done }

          pub done_worked : {first last : List ℕ} → PutMarks n near next (k + 1) new last → Cleared (n * n) first old → Worked steps n first last k
          done_worked put z = marks_worked k (suc k) rounds_done (still k rounds_done.0) z (marks_next put)
