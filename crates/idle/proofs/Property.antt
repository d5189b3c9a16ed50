-- No idle build meets the promise of a property: chart L, whose formula has two solutions, of which the least is not found in one round. Assumes
-- nothing.
use Prim.Native.Nat.{ℕ}
use mathlib.Core.Path.{◌≡◌, refl, sym, ap, subst, ◌∙◌}
use mathlib.Core.Bool.{false, So}
use mathlib.Core.List.Memᴰ.{head as here}
use mathlib.Core.List.Memᴰ.{tail as there}
use mathlib.Core.List.{List}
use native.Mathlib.Omega.{arith}
use Rattle.settle.specs.Test.{both, either, implies, any_of, all_of, some, each}
use Rattle.settle.specs.Chain.{empty, chain}
use Rattle.settle.proofs.Test.{never}
use Rattle.settle.proofs.Chain.{rounds_unique}
use Rattle.refusal.specs.declared.Refusal.{Refusal}
use Rattle.chart.specs.Chart.{Chart, actions}
use Rattle.chart.specs.Layout.{Bytes}
use Rattle.chart.specs.Reading.{bytes_at, steps_at, chart_in}
use Rattle.sheet.specs.Formula.{Formula, only, variable, bottom, or, diamond, box}
use Rattle.sheet.specs.Meaning.{leaves, some_step, every_step, some_label, every_label, holds}
use Rattle.sheet.specs.Reading.{sheet, read_sheet, read_nodes, parse, node_at}
use Rattle.sheet.specs.Solution.{applications}
use Rattle.words.specs.Words.{member}
use Rattle.starred.specs.Boards.{chart_l, sheet_or, starred, SatisfiesAre, Holds}
use Rattle.starred.proofs.Boards.{starred_boards_hold, of_chart, shape_l, read_l}
use Rattle.property.specs.Promise.{Solution, PropertyPromise}
use Rattle.solve.specs.declared.Solved.{Solved}
use Rattle.property.proofs.Promise.{never_15}
use Rattle.idle.specs.Slice.{Slice}
use Rattle.idle.specs.Property.{Build, Meets, RefusesEverything, SameAlways, CopiesFirstRound, InventsRounds, NotIdle}
use Rattle.idle.proofs.Slice.{are_bytes, l}
use Rattle.std.specs.Prelude.{Result, Ok, Err}

-- ---- the chart and the two sheets

abbrev pub c : Chart
c = chart_in chart_l shape_l

abbrev pub f : Formula
f = or (box (only 0) bottom) (diamond (only 0) variable)

pub read_least : read_sheet (sheet_or 1) 1 ≡ sheet 1 5 f
unfolding sheet_or read_sheet read_nodes parse node_at
read_least = refl

read_greatest : read_sheet (sheet_or 2) 1 ≡ sheet 2 5 f
unfolding sheet_or read_sheet read_nodes parse node_at
read_greatest = refl

pub bytes_least : Bytes (sheet_or 1)
unfolding sheet_or all_of both
bytes_least = are_bytes (sheet_or 1) refl

bytes_greatest : Bytes (sheet_or 2)
unfolding sheet_or all_of both
bytes_greatest = are_bytes (sheet_or 2) refl

abbrev pub least : Slice
least = (sheet_or 1, bytes_least)

abbrev greatest : Slice
greatest = (sheet_or 2, bytes_greatest)

-- ---- their boards

abbrev pub Board : List ℕ → ℕ → ℕ → ℕ → Chart → Type 0
Board s word number rounds d = (kind : ℕ) × (g : Formula) × (nodes : ℕ) × (read_sheet s (actions d) ≡ sheet kind nodes g) × SatisfiesAre kind g word number rounds d

pub of_sheet : (s : List ℕ) (kind nodes : ℕ) (h : Formula) → read_sheet s 1 ≡ sheet kind nodes h → {word number rounds : ℕ} → Board s word number rounds c → SatisfiesAre kind h word number rounds c
unfolding chart_l bytes_at
of_sheet s kind nodes h e (k, g, n, d, says) =
    let i : k ≡ kind = cc in
    let j : g ≡ h = cc in
    rw (← i, ← j) says

pub board_least : SatisfiesAre 1 f 6 2 2 c
unfolding starred Holds
board_least = of_sheet (sheet_or 1) 1 5 f read_least (of_chart (Board (sheet_or 1) 6 2 2) chart_l shape_l read_l (starred_boards_hold _ (there (there (there (there (here refl)))))))

pub board_greatest : SatisfiesAre 2 f 7 3 0 c
unfolding starred Holds
board_greatest = of_sheet (sheet_or 2) 2 5 f read_greatest (of_chart (Board (sheet_or 2) 7 3 0) chart_l shape_l read_l (starred_boards_hold _ (there (there (there (there (there (here refl))))))))

-- one round does not find state 1
pub once : false ≡ applications c 1 f 1 1
unfolding chart_l steps_at empty chain holds some_label every_label some_step every_step leaves some each any_of all_of both either implies
once = refl

-- ---- the law

-- what an accepted chart and sheet are answered
answered : (s : List ℕ) (kind nodes : ℕ) → read_sheet s 1 ≡ sheet kind nodes f → (answer : Result Solved Refusal) → PropertyPromise chart_l s answer → (a : Solved) × (answer ≡ Ok a) × Solution c kind f a
answered s kind nodes e (Ok a) w = (a, refl, w.both_accepted shape_l kind nodes f read_l e)
answered s kind nodes e (Err r) w = absurd (never_15 chart_l s r w (ap (λ (x : Refusal). x.number) (w.both_accepted shape_l kind nodes f read_l e).refusal_is))

module _ (b : Build) (meets : Meets b) where
  by_least : (a : Solved) × (b l least ≡ Ok a) × Solution c 1 f a
  by_least = answered (sheet_or 1) 1 5 read_least (b l least) (meets l least)

  by_greatest : (a : Solved) × (b l greatest ≡ Ok a) × Solution c 2 f a
  by_greatest = answered (sheet_or 2) 2 5 read_greatest (b l greatest) (meets l greatest)

  refusing : RefusesEverything b → ⊥
  refusing g = let z : ◌≡◌ {A = ℕ} 0 1 = cc ((g l least).1, by_least.1) in omega arith

  -- state 0 satisfies by the greatest solution only
  same : SameAlways b → ⊥
  unfolding chart_l bytes_at
  same (word, g) =
      let (a, i, s) = by_least in
      let (d, j, u) = by_greatest in
      let w : d.word ≡ a.word = g l greatest d j ∙ sym (g l least a i) in
      board_least.bits 0 (omega arith) ((s.bit_exactly 0 (omega arith)).0 (subst (λ (x : ℕ). So (member x 0)) w ((u.bit_exactly 0 (omega arith)).1 (board_greatest.bits 0 (omega arith)))))

  -- the second round finds state 1
  copies : CopiesFirstRound b → ⊥
  unfolding chart_l bytes_at
  copies g =
      let (a, i, s) = by_least in
      never (once ∙ sym (g l least shape_l 1 5 f a read_l read_least i 1 (omega arith)) ∙ (s.bit_exactly 1 (omega arith)).1 (board_least.bits 1 (omega arith)))

  invented : InventsRounds b → ⊥
  invented (rounds, g) =
      let (a, i, s) = by_least in
      let (d, j, u) = by_greatest in
      omega (arith, g l least a i, g l greatest d j, rounds_unique _ _ _ 2 s.rounds_least board_least.rounds_are, rounds_unique _ _ _ 0 u.rounds_least board_greatest.rounds_are)

  pub property_not_idle : NotIdle b
  property_not_idle = record { not_refusing = refusing; not_same = same; not_first_round = copies; not_invented = invented }
