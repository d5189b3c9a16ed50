-- No idle build meets the promise of compare: a state that steps to itself is compared with two at rest, and with one that steps to one at rest.
-- Assumes nothing.
use Prim.Native.Nat.{ℕ, suc, ◌+◌, ◌≤◌}
use mathlib.Core.Path.{◌≡◌, refl, sym, ap, subst, ◌∙◌}
use mathlib.Core.Bool.{Bool, true, false, So}
use mathlib.Core.List.{List, [], ◌∷◌}
use mathlib.Core.Logic.{⊎_elim}
use native.Mathlib.Omega.{arith}
use lib.ListN.{length, get_or, take}
use Rattle.settle.specs.Test.{pick, both, either, implies, neg, same, any_of, all_of, some, each}
use Rattle.settle.specs.Finite.{below, product, pairs}
use Rattle.settle.specs.Chain.{full, chain, settled, stops}
use Rattle.settle.proofs.Test.{neg_e, all_e}
use Rattle.settle.proofs.Finite.{below_i, product_i}
use Rattle.settle.proofs.Chain.{stops_e}
use Rattle.chart.specs.Chart.{Chart, states}
use Rattle.chart.specs.Layout.{Bytes, WellFormed}
use Rattle.chart.specs.Reading.{read_chart, read_actions, read_transitions, judge_codes, judge_triples, bytes_at, steps_at, chart_in}
use Rattle.sheet.specs.Meaning.{leaves}
use Rattle.nearness.specs.Relation.{matched, bisimulation_round, Near}
use Rattle.nearness.specs.Mark.{Mark}
use Rattle.nearness.proofs.Mark.{mark_drop}
use Rattle.beside.specs.Chosen.{chosen}
use Rattle.beside.specs.Beside.{declares, joint_codes, index_of, beside}
use Rattle.beside.specs.Partner.{Partners}
use Rattle.beside.specs.Reading.{two, read_two}
use Rattle.beside.proofs.Partner.{partners_exactly}
use Rattle.beside.proofs.Reading.{two_read, first_formed, second_formed}
use Rattle.lent.specs.Lent.{writes, answer_of, bytes_of}
use Rattle.compare.specs.Comparison.{listed, Comparison}
use Rattle.compare.specs.Promise.{with_rounds}
use Rattle.compare.proofs.Compared.{all_alone, comparison_by}
use Rattle.compare.proofs.Promise.{promised}
use Rattle.compare.proofs.Determined.{not_compared, compare_determined}
use Rattle.idle.specs.Slice.{Slice}
use Rattle.idle.specs.Compare.{Build, Meets, RefusesEverything, WhereAnswered, SameAlways, LeavesUnwritten, near_once, CopiesFirstMark, with_none, CopiesFirstLists, InventsRounds, NotIdle}
use Rattle.idle.proofs.Slice.{are_bytes, lent}
use Rattle.idle.proofs.Written.{filled}
use Rattle.std.specs.Prelude.{Ok}

-- ---- the charts

chart_loop : List ℕ
chart_loop = 1 ∷ 1 ∷ 1 ∷ 10 ∷ 1 ∷ 0 ∷ 0 ∷ 0 ∷ 0 ∷ []

chart_rest : List ℕ
chart_rest = 2 ∷ 1 ∷ 2 ∷ 0 ∷ 0 ∷ 0 ∷ []

chart_end : List ℕ
chart_end = 2 ∷ 1 ∷ 2 ∷ 1 ∷ 10 ∷ 1 ∷ 0 ∷ 0 ∷ 0 ∷ 1 ∷ []

bytes_loop : Bytes chart_loop
unfolding chart_loop all_of both
bytes_loop = are_bytes chart_loop refl

bytes_rest : Bytes chart_rest
unfolding chart_rest all_of both
bytes_rest = are_bytes chart_rest refl

bytes_end : Bytes chart_end
unfolding chart_end all_of both
bytes_end = are_bytes chart_end refl

abbrev loop : Slice
loop = (chart_loop, bytes_loop)

abbrev rest : Slice
rest = (chart_rest, bytes_rest)

abbrev end : Slice
end = (chart_end, bytes_end)

abbrev looping : Chart
looping = chart_in chart_loop (record { n = 1; m = 1; t = 1 })

abbrev resting : Chart
resting = chart_in chart_rest (record { n = 2; m = 0; t = 0 })

abbrev ending : Chart
ending = chart_in chart_end (record { n = 2; m = 1; t = 1 })

read_rest : read_two chart_loop chart_rest ≡ two looping resting
unfolding chart_loop chart_rest read_chart read_actions read_transitions judge_codes judge_triples bytes_at steps_at joint_codes chosen declares any_of either
read_rest = refl

read_end : read_two chart_loop chart_end ≡ two looping ending
unfolding chart_loop chart_end read_chart read_actions read_transitions judge_codes judge_triples bytes_at steps_at joint_codes chosen declares any_of either
read_end = refl

-- ---- what comparing them gives

-- where the last round is the one that drops the start states, and no state is left with one of the other
module _ (c d : Chart) (formed_first : WellFormed c) (formed_second : WellFormed d) (k : ℕ)
    (stop : So (stops (pairs (states c + states d)) (Near (beside c d).steps) (suc k)))
    (near : So (Near (beside c d).steps k (0, states c))) (dropped : So (neg (Near (beside c d).steps (suc k) (0, states c))))
    (apart : So (all_of (λ x. neg (Near (beside c d).steps (suc k) (x.0, states c + x.1))) (product (below (states c)) (below (states d))))) where
  no_partners : (p q : ℕ) → Partners c d p q → ⊥
  unfolding Mark
  no_partners p q r =
      neg_e _ (all_e _ apart (product_i _ (below_i _ p r.of_first) (below_i _ q r.of_second)))
      ((partners_exactly c d formed_first formed_second p q r.of_first r.of_second).1 r (suc k))

  apart_comparison : Comparison c d (suc k) (chosen (λ p. true) (states c)) (chosen (λ p. true) (states d)) (suc k)
  apart_comparison =
      comparison_by c d formed_first formed_second (mark_drop _ 0 (states c) k near (neg_e _ dropped)) (stops_e _ _ (suc k) stop)
      (all_alone _ _ (λ p h. no_partners p h.0 h.1)) (all_alone _ _ (λ q h. no_partners h.0 q h.1))

with_rest : Comparison looping resting 1 (0 ∷ []) (0 ∷ 1 ∷ []) 1
unfolding chart_loop chart_rest bytes_at steps_at beside joint_codes chosen declares index_of stops settled pairs product below same neg chain full bisimulation_round matched each some all_of any_of implies both either leaves
with_rest =
    let both = two_read chart_loop chart_rest looping resting read_rest in
    apart_comparison looping resting (first_formed both bytes_loop bytes_rest) (second_formed both bytes_loop bytes_rest) 0 refl refl refl refl

with_end : Comparison looping ending 2 (0 ∷ []) (0 ∷ 1 ∷ []) 2
unfolding chart_loop chart_end bytes_at steps_at beside joint_codes chosen declares index_of stops settled pairs product below same neg chain full bisimulation_round matched each some all_of any_of implies both either leaves
with_end =
    let both = two_read chart_loop chart_end looping ending read_end in
    apart_comparison looping ending (first_formed both bytes_loop bytes_end) (second_formed both bytes_loop bytes_end) 1 refl refl refl refl

-- the first round leaves no state of the first alone
once : with_none (near_once looping ending) 1 2 ≡ []
unfolding chart_loop chart_end bytes_at steps_at beside joint_codes chosen declares index_of below neg chain full bisimulation_round matched each some all_of any_of implies both either leaves
once = refl

-- no mark of a first round is 2
no_mark : (near : Bool) → ◌≡◌ {A = ℕ} 2 (pick near 0 1) → ⊥
no_mark true e = omega arith
no_mark false e = omega arith

-- ---- the law

module _ (b : Build) (meets : Meets b) where
  module _ (first second : Slice) {c d : Chart} (read : read_two first.0 second.0 ≡ two c d)
      {mark rounds : ℕ} {xs ys : List ℕ} (comparison : Comparison c d mark xs ys rounds) (room : length (listed mark xs ys) ≤ 40) where
    abbrev list : List ℕ
    list = listed mark xs ys

    answered : ((b first second lent).0 ≡ Ok (record { written = length list; rounds = rounds })) × (take (length list) (b first second lent).1 ≡ list)
    answered =
        let p = promised first.0 second.0 lent.0 (bytes_of lent.0 (writes list)) (with_rounds rounds (answer_of lent.0 (writes list))) read (record { mark = mark; first = xs; second = ys; rounds = rounds; comparison = comparison; answered = refl; bytes = refl }) in
        let e = compare_determined first.0 second.0 lent.0 _ _ _ _ (meets first second lent) p in
        let f = filled list (bytes_of lent.0 (writes list)) (answer_of lent.0 (writes list)) room (record { answered = refl; bytes = refl }) in
        (e.0 ∙ ap (with_rounds rounds) f.0, ap (take (length list)) e.1 ∙ f.1)

    shows : {Says : Chart → Chart → List ℕ → ℕ → Type 0} → WhereAnswered Says b → Says c d list rounds
    shows {Says} w = subst (λ (x : List ℕ). Says c d x rounds) answered.1 (w.said first second lent c d _ read answered.0)

  on_rest : {Says : Chart → Chart → List ℕ → ℕ → Type 0} → WhereAnswered Says b → Says looping resting (listed 1 (0 ∷ []) (0 ∷ 1 ∷ [])) 1
  on_rest = shows loop rest read_rest with_rest (omega arith)

  on_end : {Says : Chart → Chart → List ℕ → ℕ → Type 0} → WhereAnswered Says b → Says looping ending (listed 2 (0 ∷ []) (0 ∷ 1 ∷ [])) 2
  on_end = shows loop end read_end with_end (omega arith)

  refusing : RefusesEverything b → ⊥
  refusing f = not_compared (sym (f loop rest lent).1 ∙ (answered loop rest read_rest with_rest (omega arith)).0)

  same_list : SameAlways b → ⊥
  unfolding chart_rest chart_end bytes_at
  same_list (bytes, w) = omega (arith, ap (λ (x : List ℕ). get_or x 0 0) (on_rest w ∙ sym (on_end w)))

  unwritten : LeavesUnwritten b → ⊥
  unwritten f = omega (arith, ap (λ (x : List ℕ). get_or x 0 0) (sym (ap (take 6) (f loop rest lent)) ∙ (answered loop rest read_rest with_rest (omega arith)).1))

  first_mark : CopiesFirstMark b → ⊥
  first_mark w = no_mark (near_once looping ending 0 0) (on_end w)

  first_lists : CopiesFirstLists b → ⊥
  unfolding chart_loop chart_end bytes_at
  first_lists w = omega (arith, ap length once, ap (λ (x : List ℕ). get_or x 0 0) (on_end w))

  invented : InventsRounds b → ⊥
  unfolding chart_rest chart_end bytes_at
  invented (number, w) = omega (arith, on_rest w, on_end w)

  pub compare_not_idle : NotIdle b
  compare_not_idle =
      record {
        not_refusing = refusing;
        not_same = same_list;
        not_unwritten = unwritten;
        not_first_round = ⊎_elim first_mark first_lists;
        not_invented = invented;
      }
