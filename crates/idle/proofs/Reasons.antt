-- No idle build meets the promise of reasons: a state that steps to itself beside one at rest; one state alone; and one that steps to itself beside one
-- that steps to one at rest, which two rounds tell apart. Assumes nothing.
use Prim.Native.Nat.{ℕ, zero, suc, ◌≤◌, ◌<◌}
use mathlib.Core.Path.{◌≡◌, refl, ap, subst, subst⁻¹}
use mathlib.Core.Bool.{So}
use mathlib.Core.List.Memᴰ.{cases_cons}
use mathlib.Core.List.Memᴰ.{eq_of_singleton as only_one}
use mathlib.Core.List.Memᴰ.{head as here}
use mathlib.Core.List.Memᴰ.{not-nil}
use mathlib.Core.List.Memᴰ.{tail as there}
use mathlib.Core.List.{List, [], ◌∷◌, Memᴰ as Mem}
use mathlib.Core.Logic.{inl, inr, ⊎_elim}
use native.Mathlib.Omega.{arith}
use lib.Dec.{eqb}
use lib.ListN.{length, get_or}
use Rattle.settle.specs.Test.{pick, both, either, implies, neg, any_of, all_of, some, each}
use Rattle.settle.specs.Chain.{full, chain}
use Rattle.settle.proofs.Test.{neg_e}
use Rattle.chart.specs.Chart.{Step, Chart}
use Rattle.chart.specs.Layout.{Bytes, Rising}
use Rattle.chart.specs.Reading.{read_chart, read_actions, read_transitions, judge_codes, judge_triples, bytes_at, steps_at, chart_in}
use Rattle.chart.specs.declared.Shape.{Shape}
use Rattle.sheet.specs.Meaning.{leaves}
use Rattle.sheet.proofs.Meaning.{TargetsBelow}
use Rattle.nearness.specs.Relation.{matched, bisimulation_round, Near}
use Rattle.nearness.specs.Mark.{Mark}
use Rattle.nearness.proofs.Formulas.{near_refl, near_sym}
use Rattle.nearness.proofs.Mark.{mark_drop}
use Rattle.lent.specs.Lent.{writes, LentPromise}
use Rattle.reason.specs.Line.{Line, list_bytes, answers}
use Rattle.reason.specs.Good.{Listed}
use Rattle.reason.specs.Own.{MarksAre, Chosen, OwnList}
use Rattle.reason.proofs.Relies.{no_other_side, move_0, move_1}
use Rattle.reason.proofs.Choice.{mark_within}
use Rattle.reason.proofs.Few.{few_lines}
use Rattle.reason.proofs.Bytes.{bytes_length}
use Rattle.reason.proofs.Determined.{own_determined}
use Rattle.reasons.specs.Promise.{Reasons, ReasonsPromise}
use Rattle.idle.specs.Slice.{Slice}
use Rattle.idle.specs.Written as Written
use Rattle.idle.specs.Reasons.{Promise, WhereAnswered, FirstRoundOnly, OneOrderOnly, WritesCodes, NotIdle}
use Rattle.idle.proofs.Slice.{are_bytes, lent}
use Rattle.idle.proofs.Written.{filled, not_idle}
use Rattle.std.specs.Prelude.{Result, Ok}
use Rattle.refusal.specs.declared.Refusal.{Refusal}

-- ---- a state that steps to itself beside one at rest

pub chart_two : List ℕ
chart_two = 2 ∷ 1 ∷ 2 ∷ 1 ∷ 10 ∷ 1 ∷ 0 ∷ 0 ∷ 0 ∷ 0 ∷ []

pub bytes_two : Bytes chart_two
unfolding chart_two all_of both
bytes_two = are_bytes chart_two refl

abbrev pub shape_two : Shape
shape_two = record { n = 2; m = 1; t = 1 }

-- its only step
abbrev pub loops : List Step
loops = record { source = 0; action = 0; target = 0 } ∷ []

abbrev pub two : Slice
two = (chart_two, bytes_two)

pub read_two_lem : read_chart chart_two ≡ Ok shape_two
unfolding chart_two read_chart read_actions read_transitions judge_codes judge_triples
read_two_lem = refl

pub steps_two : (chart_in chart_two shape_two).steps ≡ loops
unfolding chart_two steps_at
steps_two = refl

-- 1 where the two differ
mark : ℕ × ℕ → ℕ
mark x = pick (eqb x.0 x.1) 0 1

apart : So (neg (Near loops 1 (0, 1)))
unfolding chain full bisimulation_round matched each some all_of any_of implies both either leaves neg
apart = refl

marks_two : MarksAre 2 loops mark
unfolding Mark mark chain full
marks_two zero zero h i = λ k. near_refl loops k 0
marks_two (suc zero) (suc zero) h i = λ k. near_refl loops k 1
marks_two zero (suc zero) h i = mark_drop loops 0 1 0 refl (neg_e _ apart)
marks_two (suc zero) zero h i = mark_drop loops 1 0 0 refl (λ t. neg_e _ apart (near_sym loops 1 1 0 t))
marks_two (suc (suc p)) q h i = absurd (omega arith)
marks_two zero (suc (suc q)) h i = absurd (omega arith)
marks_two (suc zero) (suc (suc q)) h i = absurd (omega arith)

-- 0 steps, and 1 has no answer
abbrev forth : Line
forth = record { p = 0; q = 1; side = 0; action = 0; target = 0 }

abbrev back : Line
back = record { p = 1; q = 0; side = 1; action = 0; target = 0 }

same_line : {p p' q q' s s' a a' t t' : ℕ} → p ≡ p' → q ≡ q' → s ≡ s' → a ≡ a' → t ≡ t'
    → ◌≡◌ {A = Line} (record { p = p; q = q; side = s; action = a; target = t }) (record { p = p'; q = q'; side = s'; action = a'; target = t' })
same_line e f g h i = cc

-- of a move of either the step is 0's
only_step : (s a t : ℕ) → Mem (record { source = s; action = a; target = t }) loops → (s ≡ 0) × (a ≡ 0) × (t ≡ 0)
only_step s a t m = let e = only_one m in (ap (λ (x : Step). x.source) e, ap (λ (x : Step). x.action) e, ap (λ (x : Step). x.target) e)

chosen_forth : Chosen 2 loops mark forth
unfolding mark answers leaves both
chosen_forth = record {
  p_in = omega arith;
  q_in = omega arith;
  unequal = omega arith;
  qualifies = record { moves = here refl; smaller = λ x m. absurd (not-nil m) };
  first = λ k e q. ⊎_elim
      (λ s. let m = only_step _ _ _ ((move_0 loops k s).0 q.moves) in inl (same_line (ap (λ (x : ℕ × ℕ). x.0) e) (ap (λ (x : ℕ × ℕ). x.1) e) s m.1 m.2))
      (λ s. inr (inl (omega arith)))
      (no_other_side loops k q.moves);
}

chosen_back : Chosen 2 loops mark back
unfolding mark answers leaves both
chosen_back = record {
  p_in = omega arith;
  q_in = omega arith;
  unequal = omega arith;
  qualifies = record { moves = here refl; smaller = λ x m. absurd (not-nil m) };
  first = λ k e q. ⊎_elim
      (λ s. let m = only_step _ _ _ ((move_0 loops k s).0 q.moves) in absurd (omega (arith, m.0, ap (λ (x : ℕ × ℕ). x.0) e)))
      (λ s. let m = only_step _ _ _ ((move_1 loops k s).0 q.moves) in inl (same_line (ap (λ (x : ℕ × ℕ). x.0) e) (ap (λ (x : ℕ × ℕ). x.1) e) s m.1 m.2))
      (no_other_side loops k q.moves);
}

own_two : OwnList 2 loops mark (back ∷ forth ∷ [])
unfolding mark Rising
own_two = record {
  chosen = λ l m. ⊎_elim (λ e. subst⁻¹ (Chosen 2 loops mark) e chosen_back) (λ i. subst⁻¹ (Chosen 2 loops mark) (only_one i) chosen_forth) (cases_cons m);
  every = listed;
  rising = (inr (refl, inl (omega arith)), tt);
}
  where
    listed : (p q : ℕ) → p < 2 → q < 2 → 0 < mark (p, q) → Listed (back ∷ forth ∷ []) (p, q)
    listed zero (suc zero) h i some = (forth, there (here refl), refl)
    listed (suc zero) zero h i some = (back, here refl, refl)
    listed zero zero h i some = absurd (omega arith)
    listed (suc zero) (suc zero) h i some = absurd (omega arith)
    listed (suc (suc p)) q h i some = absurd (omega arith)
    listed zero (suc (suc q)) h i some = absurd (omega arith)
    listed (suc zero) (suc (suc q)) h i some = absurd (omega arith)

-- ---- one state alone

pub chart_one : List ℕ
chart_one = 1 ∷ 1 ∷ 0 ∷ 0 ∷ 0 ∷ []

pub bytes_one : Bytes chart_one
unfolding chart_one all_of both
bytes_one = are_bytes chart_one refl

abbrev pub shape_one : Shape
shape_one = record { n = 1; m = 0; t = 0 }

abbrev pub one : Slice
one = (chart_one, bytes_one)

pub read_one : read_chart chart_one ≡ Ok shape_one
unfolding chart_one read_chart read_actions read_transitions judge_codes judge_triples
read_one = refl

pub steps_one : (chart_in chart_one shape_one).steps ≡ []
unfolding chart_one steps_at
steps_one = refl

marks_one : MarksAre 1 [] mark
unfolding Mark mark
marks_one zero zero h i = λ k. near_refl [] k 0
marks_one (suc p) q h i = absurd (omega arith)
marks_one zero (suc q) h i = absurd (omega arith)

own_one : OwnList 1 [] mark []
unfolding mark Rising
own_one = record { chosen = λ l m. absurd (not-nil m); every = listed; rising = tt }
  where
    listed : (p q : ℕ) → p < 1 → q < 1 → 0 < mark (p, q) → Listed [] (p, q)
    listed zero zero h i some = absurd (omega arith)
    listed (suc p) q h i some = absurd (omega arith)
    listed zero (suc q) h i some = absurd (omega arith)

-- ---- what two rounds tell apart

chart_three : List ℕ
chart_three = 3 ∷ 1 ∷ 2 ∷ 3 ∷ 1 ∷ 10 ∷ 2 ∷ 0 ∷ 0 ∷ 0 ∷ 0 ∷ 1 ∷ 0 ∷ 2 ∷ []

bytes_three : Bytes chart_three
unfolding chart_three all_of both
bytes_three = are_bytes chart_three refl

abbrev shape_three : Shape
shape_three = record { n = 3; m = 1; t = 2 }

abbrev steps_three : List Step
steps_three = (chart_in chart_three shape_three).steps

abbrev three : Slice
three = (chart_three, bytes_three)

read_three : read_chart chart_three ≡ Ok shape_three
unfolding chart_three read_chart read_actions read_transitions judge_codes judge_triples
read_three = refl

near_once_lem : So (Near steps_three 1 (0, 1))
unfolding chart_three steps_at chain full bisimulation_round matched each some all_of any_of implies both either leaves
near_once_lem = refl

not_twice : So (neg (Near steps_three 2 (0, 1)))
unfolding chart_three steps_at chain full bisimulation_round matched each some all_of any_of implies both either leaves neg
not_twice = refl

-- ---- the law

-- the list that a chart's promise speaks of is its own list, whichever way that is known
reasons_are : {n : ℕ} {steps : List Step} (lines : List Line) (marks : ℕ × ℕ → ℕ) → TargetsBelow n steps → MarksAre n steps marks → OwnList n steps marks lines
    → {old new : List ℕ} {answer : Result ℕ Refusal} → Reasons n steps old new answer → LentPromise (writes (list_bytes lines)) old new answer
reasons_are {n} {steps} lines marks targets m o {old} {new} {answer} r =
    subst (λ (x : List Line). LentPromise (writes (list_bytes x)) old new answer) (own_determined n steps targets r.mark marks r.marks_are m r.lines lines r.own o) r.written

at_two : (old new : List ℕ) (answer : Result ℕ Refusal) → ReasonsPromise chart_two old new answer → LentPromise (writes (list_bytes (back ∷ forth ∷ []))) old new answer
at_two old new answer p =
    let r : Reasons 2 loops old new answer = subst (λ (s : List Step). Reasons 2 s old new answer) steps_two (rw read_two_lem at p) in
    reasons_are (back ∷ forth ∷ []) mark (λ t m. subst⁻¹ (λ (u : Step). u.target < 2) (only_one m) (omega arith)) marks_two own_two r

at_one : (old new : List ℕ) (answer : Result ℕ Refusal) → ReasonsPromise chart_one old new answer → LentPromise (writes (list_bytes [])) old new answer
at_one old new answer p =
    let r : Reasons 1 [] old new answer = subst (λ (s : List Step). Reasons 1 s old new answer) steps_one (rw read_one at p) in
    reasons_are [] mark (λ t m. absurd (not-nil m)) marks_one own_one r

module _ (b : Written.Build Slice) (meets : Written.Meets Promise b) where
  -- what is said where a build answers is said of every line of the own list
  shows : {Says : Chart → Line → Type 0} → WhereAnswered Says b → (chart : Slice) (sh : Shape) → read_chart chart.0 ≡ Ok sh
      → (lines : List Line) → length (list_bytes lines) ≤ 40 → LentPromise (writes (list_bytes lines)) lent.0 (b chart lent).1 (b chart lent).0 → (l : Line) → Mem l lines → Says (chart_in chart.0 sh) l
  shows w chart sh read lines room p l m = let f = filled (list_bytes lines) (b chart lent).1 (b chart lent).0 room p in w.said chart lent sh _ lines read f.0 f.1 l m

  -- the line of the state at rest with the other
  of_back : {Says : Chart → Line → Type 0} → WhereAnswered Says b → Says (chart_in chart_two shape_two) back
  unfolding list_bytes
  of_back w = shows w two shape_two read_two_lem (back ∷ forth ∷ []) (omega arith) (at_two lent.0 _ _ (meets two lent)) back (here refl)

  one_order : OneOrderOnly b → ⊥
  one_order w = omega (arith, of_back w)

  codes : WritesCodes b → ⊥
  unfolding chart_two bytes_at
  codes w = omega (arith, only_one (of_back w))

  first_round : FirstRoundOnly b → ⊥
  first_round w =
      let r : Reasons 3 steps_three lent.0 (b three lent).1 (b three lent).0 = rw read_three at (meets three lent) in
      let o = r.own in
      let few = few_lines 3 steps_three r.mark r.marks_are r.lines o.chosen o.rising in
      let some = mark_within steps_three 2 0 1 (r.mark (0, 1)) (neg_e _ not_twice) (r.marks_are 0 1 (omega arith) (omega arith)) in
      let k = o.every 0 1 (omega arith) (omega arith) some.0 in
      shows w three shape_three read_three r.lines (omega (arith, bytes_length r.lines, few)) r.written k.0 k.1
      (subst⁻¹ (λ (x : ℕ × ℕ). So (Near steps_three 1 x)) k.2 near_once_lem)

  pub reasons_not_idle : NotIdle b
  unfolding list_bytes
  reasons_not_idle = record {
    not_idle = not_idle Promise two one (list_bytes (back ∷ forth ∷ [])) (list_bytes []) at_two at_one
        (omega arith) (omega arith)
        (λ e. omega (arith, ap length e)) (λ e. omega (arith, ap (λ (x : List ℕ). get_or x 0 0) e))
        b meets;
    not_first_round = first_round;
    not_one_order = one_order;
    not_codes = codes;
  }
