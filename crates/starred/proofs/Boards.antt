-- Every starred board holds: each is a test that computes, and the test being true is what the board says.
use Prim.Native.Nat.{ℕ, suc, ◌+◌, ◌*◌, ◌^◌}
use mathlib.Core.Path.{◌≡◌, refl, sym, subst, ◌∙◌}
use mathlib.Core.Bool.{Bool, true, false, So}
use mathlib.Core.List.{List, [], ◌∷◌, Memᴰ as Mem}
use mathlib.Core.Logic.{◌↔◌}
use native.Mathlib.Omega.{arith}
use lib.ListN.{length, get_or}
use lib.Dec.{eqb, ltb}
use borrow.Author.Tests.{eqb-true, ltb-true}
use Rattle.settle.specs.Test.{both, either, implies, neg, same, any_of, all_of, some, each, count}
use Rattle.settle.specs.Finite.{below, product, pairs}
use Rattle.settle.specs.Chain.{empty, full, chain, settled, stops}
use Rattle.settle.proofs.Test.{never, both_e, same_e, all_e}
use Rattle.settle.proofs.Finite.{below_i, pairs_i}
use Rattle.settle.proofs.Chain.{stops_e}
use Rattle.chart.specs.Chart.{Chart, states, actions}
use Rattle.chart.specs.Reading.{read_chart, read_actions, read_transitions, judge_codes, judge_triples, bytes_at, steps_at, chart_in}
use Rattle.chart.specs.declared.Shape.{Shape}
use Rattle.chart.proofs.Accepted.{same_shape}
use Rattle.sheet.specs.Formula.{Formula}
use Rattle.sheet.specs.Meaning.{leaves, some_step, every_step, some_label, every_label, holds}
use Rattle.sheet.specs.Solution.{applications}
use Rattle.sheet.proofs.Meaning.{TargetsBelow}
use Rattle.sheet.proofs.Solution.{satisfies_iff}
use Rattle.sheet.specs.Reading.{Sheet, sheet, refused, read_sheet, read_nodes, parse, node_at}
use Rattle.words.specs.Words.{member}
use Rattle.nearness.specs.Relation.{matched, simulation_round, bisimulation_round, Near, Simulating}
use Rattle.nearness.specs.Mark.{bears_mark}
use Rattle.nearness.proofs.Bisimulation.{simulates_iff}
use Rattle.nearness.proofs.Rounds.{near_rounds_le, mark_test}
use Rattle.starred.specs.Boards.{Board, marks, marks_greatest, simulates, satisfies, satisfies_form, InChart, Truth, MarksAre, GreatestRounds, SimulationsAre, SatisfiesAre, Holds, chart_e, chart_l, chart_one, sheet_e, sheet_or, sheet_and, sheet_false, starred}
use Rattle.std.specs.Prelude.{Result, Ok, Err}
use Rattle.refusal.specs.declared.Refusal.{Refusal}

-- ---- the tests

-- the rounds of simulation on E, which its board does not ask
simulation_rounds : ℕ
simulation_rounds = 2

targets_in : Chart → Bool
targets_in c = all_of (λ t. ltb t.target (states c)) c.steps

marks_test : List ℕ → ℕ → Chart → Bool
marks_test expected rounds c =
    both (eqb (length expected) (states c * states c))
    (both (stops (pairs (states c)) (Near c.steps) rounds)
    (all_of (λ x. bears_mark c.steps rounds x (get_or expected (x.0 * states c + x.1) 0)) (pairs (states c))))

marks_greatest_test : List ℕ → ℕ → Chart → Bool
marks_greatest_test expected rounds c = both (marks_test expected rounds c) (eqb (suc rounds) (states c))

simulates_test : List ((ℕ × ℕ) × Bool) → Chart → Bool
simulates_test [] c = true
simulates_test (e ∷ rest) c =
    both (both (ltb e.0.0 (states c)) (both (ltb e.0.1 (states c)) (same (Simulating c.steps simulation_rounds (e.0.0, e.0.1)) e.1)))
    (simulates_test rest c)

solution_test : ℕ → Formula → ℕ → ℕ → ℕ → Chart → Bool
solution_test kind f word number rounds c =
    both (stops (below (states c)) (applications c kind f) rounds)
    (both (all_of (λ s. same (applications c kind f rounds s) (member word s)) (below (states c)))
    (both (ltb word (2 ^ states c))
    (eqb (count (member word) (below (states c))) number)))

satisfies_test : ℕ → ℕ → ℕ → Chart → Sheet → Bool
satisfies_test word number rounds c (sheet kind nodes f) = solution_test kind f word number rounds c
satisfies_test word number rounds c (refused r) = false

form_test : ℕ → (Formula → Formula) → ℕ → ℕ → ℕ → Chart → Sheet → Bool
form_test kind form word number rounds c (sheet own nodes f) = solution_test kind (form f) word number rounds c
form_test kind form word number rounds c (refused r) = false

board_test : Board → Chart → Bool
board_test (marks bytes expected rounds) c = marks_test expected rounds c
board_test (marks_greatest bytes expected rounds) c = marks_greatest_test expected rounds c
board_test (simulates bytes expected) c = both (stops (pairs (states c)) (Simulating c.steps) simulation_rounds) (simulates_test expected c)
board_test (satisfies bytes sheet_bytes word number rounds) c = satisfies_test word number rounds c (read_sheet sheet_bytes (actions c))
board_test (satisfies_form bytes sheet_bytes kind form word number rounds) c = form_test kind form word number rounds c (read_sheet sheet_bytes (actions c))

chart_of : Board → List ℕ
chart_of (marks bytes expected rounds) = bytes
chart_of (marks_greatest bytes expected rounds) = bytes
chart_of (simulates bytes expected) = bytes
chart_of (satisfies bytes sheet_bytes word number rounds) = bytes
chart_of (satisfies_form bytes sheet_bytes kind form word number rounds) = bytes

on_chart : List ℕ → (Chart → Bool) → Result Shape Refusal → Bool
on_chart bytes test (Ok sh) = both (targets_in (chart_in bytes sh)) (test (chart_in bytes sh))
on_chart bytes test (Err r) = false

good : Board → Bool
good b = on_chart (chart_of b) (board_test b) (read_chart (chart_of b))

all_good : So (all_of good starred)
unfolding simulation_rounds starred chart_e chart_l chart_one sheet_e sheet_or sheet_and sheet_false good chart_of on_chart targets_in board_test marks_test marks_greatest_test simulates_test solution_test satisfies_test form_test both either implies neg same any_of all_of some each count below product pairs empty full chain settled stops read_chart read_actions read_transitions judge_codes judge_triples bytes_at steps_at leaves some_step every_step some_label every_label holds read_sheet read_nodes parse node_at matched simulation_round bisimulation_round bears_mark
all_good = refl

-- ---- a test that is true is what its board says

truth : (b : Bool) {P : Type 0} {a : Bool} → So a ↔ P → a ≡ b → Truth b P
truth true i e = i.0 e
truth false i e = λ p. never (sym e ∙ i.1 p)

greatest_allowed : (rounds n : ℕ) → suc rounds ≡ n → GreatestRounds rounds n
greatest_allowed rounds n e = record { one_less = omega arith; never_more = λ d i k h. omega (arith, near_rounds_le n d.steps (omega arith) k h) }

module _ (c : Chart) (targets : TargetsBelow (states c) c.steps) where
  marks_hold : (expected : List ℕ) (rounds : ℕ) → So (marks_test expected rounds c) → MarksAre expected rounds c
  unfolding marks_test
  marks_hold expected rounds t =
      let a = both_e _ _ t in
      let b = both_e _ _ a.1 in
      let r = stops_e _ _ rounds b.0 in
      record {
        matrix = eqb-true _ _ a.0;
        each_mark = λ p q i j. mark_test (states c) c.steps targets p q i j rounds r.0 _ (all_e _ b.1 (pairs_i _ p q i j));
        rounds_are = r;
      }

  marks_greatest_hold : (expected : List ℕ) (rounds : ℕ) → So (marks_greatest_test expected rounds c) → MarksAre expected rounds c × GreatestRounds rounds (states c)
  unfolding marks_greatest_test
  marks_greatest_hold expected rounds t = let a = both_e _ _ t in (marks_hold expected rounds a.0, greatest_allowed rounds (states c) (eqb-true _ _ a.1))

  simulates_hold : So (stops (pairs (states c)) (Simulating c.steps) simulation_rounds) → (expected : List ((ℕ × ℕ) × Bool)) → So (simulates_test expected c) → SimulationsAre expected c
  unfolding simulates_test SimulationsAre
  simulates_hold r [] t = tt
  simulates_hold r (e ∷ rest) t =
      let a = both_e _ _ t in
      let b = both_e _ _ a.0 in
      let d = both_e _ _ b.1 in
      let i = simulates_iff (states c) c.steps targets e.0.0 e.0.1 (ltb-true _ _ b.0) (ltb-true _ _ d.0) simulation_rounds (stops_e _ _ _ r).0 in
      (truth e.1 i (same_e _ _ d.1), simulates_hold r rest a.1)

  solution_holds : (kind : ℕ) (f : Formula) (word number rounds : ℕ) → So (solution_test kind f word number rounds c) → SatisfiesAre kind f word number rounds c
  unfolding solution_test
  solution_holds kind f word number rounds t =
      let a = both_e _ _ t in
      let b = both_e _ _ a.1 in
      let d = both_e _ _ b.1 in
      let r = stops_e _ _ rounds a.0 in
      record {
        bits = λ s h. truth (member word s) (satisfies_iff c targets f kind rounds r.0 s h) (same_e _ _ (all_e _ b.0 (below_i _ s h)));
        no_bit_above = ltb-true _ _ d.0;
        number_is = eqb-true _ _ d.1;
        rounds_are = r;
      }

  satisfies_hold : (word number rounds : ℕ) (s : Sheet) → So (satisfies_test word number rounds c s)
      → (kind : ℕ) × (f : Formula) × (nodes : ℕ) × (s ≡ sheet kind nodes f) × SatisfiesAre kind f word number rounds c
  unfolding satisfies_test
  satisfies_hold word number rounds (sheet kind nodes f) t = (kind, f, nodes, refl, solution_holds kind f word number rounds t)
  satisfies_hold word number rounds (refused r) t = never t

  form_holds : (kind : ℕ) (form : Formula → Formula) (word number rounds : ℕ) (s : Sheet) → So (form_test kind form word number rounds c s)
      → (own : ℕ) × (f : Formula) × (nodes : ℕ) × (s ≡ sheet own nodes f) × SatisfiesAre kind (form f) word number rounds c
  unfolding form_test
  form_holds kind form word number rounds (sheet own nodes f) t = (own, f, nodes, refl, solution_holds kind (form f) word number rounds t)
  form_holds kind form word number rounds (refused r) t = never t

on_chart_lem : (bytes : List ℕ) (test : Chart → Bool) (Says : Chart → Type 0)
    → ((c : Chart) → TargetsBelow (states c) c.steps → So (test c) → Says c)
    → (r : Result Shape Refusal) → read_chart bytes ≡ r → So (on_chart bytes test r) → InChart bytes Says
unfolding on_chart targets_in
on_chart_lem bytes test Says f (Ok sh) e t =
    let a = both_e _ _ t in
    (sh, e, f (chart_in bytes sh) (λ s m. ltb-true _ _ (all_e _ a.0 m)) a.1)
on_chart_lem bytes test Says f (Err r) e t = never t

good_holds : (b : Board) → So (good b) → Holds b
unfolding good chart_of board_test Holds
good_holds (marks bytes expected rounds) t = on_chart_lem bytes _ _ (λ c w. marks_hold c w expected rounds) (read_chart bytes) refl t
good_holds (marks_greatest bytes expected rounds) t = on_chart_lem bytes _ _ (λ c w. marks_greatest_hold c w expected rounds) (read_chart bytes) refl t
good_holds (simulates bytes expected) t =
    on_chart_lem bytes _ _ (λ c w h. let a = both_e _ _ h in simulates_hold c w a.0 expected a.1) (read_chart bytes) refl t
good_holds (satisfies bytes sheet_bytes word number rounds) t =
    on_chart_lem bytes _ _ (λ c w. satisfies_hold c w word number rounds (read_sheet sheet_bytes (actions c))) (read_chart bytes) refl t
good_holds (satisfies_form bytes sheet_bytes kind form word number rounds) t =
    on_chart_lem bytes _ _ (λ c w. form_holds c w kind form word number rounds (read_sheet sheet_bytes (actions c))) (read_chart bytes) refl t

pub starred_boards_hold : (b : Board) → Mem b starred → Holds b
starred_boards_hold b m = good_holds b (all_e good all_good m)

-- what a board says of a chart, of the counts that are read
pub of_chart : (Says : Chart → Type 0) (bytes : List ℕ) (sh : Shape) → read_chart bytes ≡ Ok sh → InChart bytes Says → Says (chart_in bytes sh)
of_chart Says bytes sh read b = subst (λ (x : Shape). Says (chart_in bytes x)) (same_shape b.1 read) b.2

-- the counts of charts E and L, as they are read
abbrev pub shape_e : Shape
shape_e = record { n = 6; m = 3; t = 7 }

abbrev pub shape_l : Shape
shape_l = record { n = 3; m = 1; t = 3 }

pub read_e : read_chart chart_e ≡ Ok shape_e
unfolding chart_e read_chart read_actions read_transitions judge_codes judge_triples
read_e = refl

pub read_l : read_chart chart_l ≡ Ok shape_l
unfolding chart_l read_chart read_actions read_transitions judge_codes judge_triples
read_l = refl
