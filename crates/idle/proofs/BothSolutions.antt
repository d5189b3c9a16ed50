-- No idle build meets the promise of both solutions: chart L and two formulas, of each of which the two solutions differ. Assumes nothing.
use Prim.Native.Nat.{ℕ}
use mathlib.Core.Path.{◌≡◌, refl, sym, subst, ◌∙◌}
use mathlib.Core.Bool.{true, So}
use mathlib.Core.Logic.{inl, inr}
use mathlib.Core.List.Memᴰ.{head as here}
use mathlib.Core.List.Memᴰ.{tail as there}
use mathlib.Core.List.{List}
use native.Mathlib.Omega.{arith}
use Rattle.settle.specs.Test.{both, either, implies, any_of, all_of, some, each}
use Rattle.settle.specs.Chain.{full, chain}
use Rattle.settle.proofs.Test.{never}
use Rattle.settle.proofs.Chain.{rounds_unique}
use Rattle.chart.specs.Layout.{Bytes}
use Rattle.chart.specs.Reading.{bytes_at, steps_at}
use Rattle.sheet.specs.Formula.{Formula, only, variable, top, and, diamond, box}
use Rattle.sheet.specs.Meaning.{leaves, some_step, every_step, some_label, every_label, holds}
use Rattle.sheet.specs.Reading.{sheet, read_sheet, read_nodes, parse, node_at}
use Rattle.sheet.specs.Solution.{Satisfies, applications}
use Rattle.words.specs.Words.{member}
use Rattle.starred.specs.Boards.{chart_l, sheet_or, sheet_and, starred, SatisfiesAre, Holds}
use Rattle.starred.proofs.Boards.{starred_boards_hold, of_chart, shape_l, read_l}
use Rattle.solve.specs.declared.Solved.{Solved}
use Rattle.property.specs.Promise.{Solution}
use Rattle.both_solutions.specs.Promise.{BothSolved, BothPromise}
use Rattle.both_solutions.specs.declared.Solutions.{Solutions}
use Rattle.both_solutions.proofs.Promise.{neither_unsettled}
use Rattle.idle.specs.Slice.{Slice}
use Rattle.idle.specs.BothSolutions.{Build, Meets, RefusesEverything, SameAlways, CopiesFirstRound, InventsRounds, GreatestFirst, OwnTwice, NotIdle}
use Rattle.idle.proofs.Slice.{are_bytes, l}
use Rattle.idle.proofs.Property.{c, f, read_least, least, Board, of_sheet, board_least, board_greatest, once}
use Rattle.std.specs.Prelude.{Result, Ok, Err}
use Rattle.refusal.specs.declared.Refusal.{Refusal}

-- ---- the other formula

abbrev g : Formula
g = and (diamond (only 0) top) (box (only 0) variable)

read_and : read_sheet (sheet_and 1) 1 ≡ sheet 1 5 g
unfolding sheet_and read_sheet read_nodes parse node_at
read_and = refl

read_and_greatest : read_sheet (sheet_and 2) 1 ≡ sheet 2 5 g
unfolding sheet_and read_sheet read_nodes parse node_at
read_and_greatest = refl

bytes_and : Bytes (sheet_and 1)
unfolding sheet_and all_of both
bytes_and = are_bytes (sheet_and 1) refl

abbrev other : Slice
other = (sheet_and 1, bytes_and)

and_least : SatisfiesAre 1 g 0 0 0 c
unfolding starred Holds
and_least = of_sheet (sheet_and 1) 1 5 g read_and (of_chart (Board (sheet_and 1) 0 0 0) chart_l shape_l read_l (starred_boards_hold _ (there (there (there (there (there (there (there (here refl))))))))))

and_greatest : SatisfiesAre 2 g 1 1 2 c
unfolding starred Holds
and_greatest = of_sheet (sheet_and 2) 2 5 g read_and_greatest (of_chart (Board (sheet_and 2) 1 1 2) chart_l shape_l read_l (starred_boards_hold _ (there (there (there (there (there (there (here refl)))))))))

-- one round from all states leaves state 1 in
once_from_all : applications c 2 g 1 1 ≡ true
unfolding chart_l steps_at full chain holds some_label every_label some_step every_step leaves some each any_of all_of both either implies
once_from_all = refl

-- ---- the law

answered : (s : List ℕ) (h : Formula) → read_sheet s 1 ≡ sheet 1 5 h → (answer : Result Solutions Refusal) → BothPromise chart_l s answer → (a : Solutions) × (answer ≡ Ok a) × BothSolved c h a
answered s h e (Ok a) w = (a, refl, w.both_accepted shape_l 1 5 h read_l e)
answered s h e (Err r) w = absurd (neither_unsettled chart_l shape_l read_l 1 h r (w.both_accepted shape_l 1 5 h read_l e))

-- where state 1 is in a solution of one formula, and not in that of the other, the words differ
words_differ : (kind : ℕ) (v w : Solved) → Solution c kind f v → Solution c kind g w → Satisfies c kind f 1 → (Satisfies c kind g 1 → ⊥) → v.word ≡ w.word → ⊥
unfolding chart_l bytes_at
words_differ kind v w A B has lacks e = lacks ((B.bit_exactly 1 (omega arith)).0 (subst (λ (x : ℕ). So (member x 1)) e ((A.bit_exactly 1 (omega arith)).1 has)))

module _ (b : Build) (meets : Meets b) where
  by_or : (a : Solutions) × (b l least ≡ Ok a) × BothSolved c f a
  by_or = answered (sheet_or 1) f read_least (b l least) (meets l least)

  by_and : (a : Solutions) × (b l other ≡ Ok a) × BothSolved c g a
  by_and = answered (sheet_and 1) g read_and (b l other) (meets l other)

  refusing : RefusesEverything b → ⊥
  refusing h = let z : ◌≡◌ {A = ℕ} 0 1 = cc ((h l least).1, by_or.1) in omega arith

  same : SameAlways b → ⊥
  unfolding chart_l bytes_at
  same (inl (word, h)) =
      let (a, i, s) = by_or in
      let (d, j, u) = by_and in
      words_differ 1 a.least d.least s.least_is u.least_is (board_least.bits 1 (omega arith)) (and_least.bits 1 (omega arith)) (h l least a i ∙ sym (h l other d j))
  same (inr (word, h)) =
      let (a, i, s) = by_or in
      let (d, j, u) = by_and in
      words_differ 2 a.greatest d.greatest s.greatest_is u.greatest_is (board_greatest.bits 1 (omega arith)) (and_greatest.bits 1 (omega arith)) (h l least a i ∙ sym (h l other d j))

  -- the second round finds state 1, from the empty set, or loses it, from all states
  copies : CopiesFirstRound b → ⊥
  unfolding chart_l bytes_at
  copies (inl h) =
      let (a, i, s) = by_or in
      never (once ∙ sym (h l least shape_l 1 5 f a read_l read_least i 1 (omega arith)) ∙ (s.least_is.bit_exactly 1 (omega arith)).1 (board_least.bits 1 (omega arith)))
  copies (inr h) =
      let (d, j, u) = by_and in
      and_greatest.bits 1 (omega arith) ((u.greatest_is.bit_exactly 1 (omega arith)).0 (h l other shape_l 1 5 g d read_l read_and j 1 (omega arith) ∙ once_from_all))

  invented : InventsRounds b → ⊥
  invented (inl (rounds, h)) =
      let (a, i, s) = by_or in
      let (d, j, u) = by_and in
      omega (arith, h l least a i, h l other d j, rounds_unique _ _ _ 2 s.least_is.rounds_least board_least.rounds_are, rounds_unique _ _ _ 0 u.least_is.rounds_least and_least.rounds_are)
  invented (inr (rounds, h)) =
      let (a, i, s) = by_or in
      let (d, j, u) = by_and in
      omega (arith, h l least a i, h l other d j, rounds_unique _ _ _ 0 s.greatest_is.rounds_least board_greatest.rounds_are, rounds_unique _ _ _ 2 u.greatest_is.rounds_least and_greatest.rounds_are)

  -- state 0 is in the greatest solution, and not in the least
  greatest_first : GreatestFirst b → ⊥
  unfolding chart_l bytes_at
  greatest_first h =
      let (a, i, s) = by_or in
      let wrong = h l least shape_l 1 5 f a read_l read_least i in
      board_least.bits 0 (omega arith) ((s.least_is.bit_exactly 0 (omega arith)).0 ((wrong.bit_exactly 0 (omega arith)).1 (board_greatest.bits 0 (omega arith))))

  own_twice : OwnTwice b → ⊥
  unfolding chart_l bytes_at
  own_twice h =
      let (a, i, s) = by_or in
      let wrong = (h l least shape_l 1 5 f a read_l read_least i).1 in
      board_least.bits 0 (omega arith) ((wrong.bit_exactly 0 (omega arith)).0 ((s.greatest_is.bit_exactly 0 (omega arith)).1 (board_greatest.bits 0 (omega arith))))

  pub both_not_idle : NotIdle b
  both_not_idle = record { not_refusing = refusing; not_same = same; not_first_round = copies; not_invented = invented; not_greatest_first = greatest_first; not_own_twice = own_twice }
