-- No idle build meets the promise of marks. Assumes nothing.
use Prim.Native.Nat.{ℕ}
use mathlib.Core.Path.{◌≡◌, refl}
use mathlib.Core.Bool.{true}
use mathlib.Core.List.Memᴰ.{head as here}
use mathlib.Core.List.{List, []}
use native.Mathlib.Omega.{arith}
use Rattle.settle.specs.Test.{both, either, implies, any_of, all_of, some, each}
use Rattle.settle.specs.Finite.{pairs}
use Rattle.settle.specs.Chain.{full, chain, Settled, Rounds}
use Rattle.settle.proofs.Chain.{rounds_unique}
use Rattle.chart.specs.Reading.{bytes_at, steps_at}
use Rattle.sheet.specs.Meaning.{leaves}
use Rattle.nearness.specs.Relation.{matched, bisimulation_round, Near}
use Rattle.nearness.specs.Bisimulation.{Bisimilar}
use Rattle.nearness.specs.Mark.{Mark}
use Rattle.nearness.proofs.Mark.{mark_unique}
use Rattle.starred.specs.Boards.{chart_e, starred, MarksAre, Holds}
use Rattle.starred.proofs.Boards.{starred_boards_hold, of_chart, shape_e, read_e}
use Rattle.relation.specs.declared.Matrix.{Matrix}
use Rattle.marks.specs.Promise.{MarksOf, MarksPromise}
use Rattle.marks.proofs.Promise.{always_answered}
use Rattle.idle.specs.Matrix.{Build, Meets, NotIdle}
use Rattle.idle.proofs.AtRest.{any_simulation, no_rounds}
use Rattle.idle.proofs.Matrix.{Shows, steps_e, not_idle}

pub board : Mark steps_e 0 1 2 × Rounds (pairs 6) (Near steps_e) 2
unfolding starred Holds chart_e bytes_at
board = let m = of_chart (MarksAre _ 2) chart_e shape_e read_e (starred_boards_hold _ (here refl)) in (m.each_mark 0 1 (omega arith) (omega arith), m.rounds_are)

struck : (m : ℕ) (bytes : List ℕ) (given : Matrix) → MarksOf 6 m steps_e bytes given → Shows given bytes 2 2
struck m bytes given s =
    record {
      six = s.states_said;
      byte_is = mark_unique steps_e 0 1 _ 2 (s.marks_are 0 1 (omega arith) (omega arith)) board.0;
      rounds_are = rounds_unique _ _ _ 2 s.rounds_are board.1;
    }

-- without triples no round strikes a pair
settled_at_rest : Settled (pairs 6) (Near []) 0
unfolding chain full bisimulation_round matched each all_of both
settled_at_rest x m = refl

pub at_rest : (p q : ℕ) → Bisimilar [] p q
at_rest p q = ((λ x y. true), (any_simulation _, any_simulation _), refl)

kept : (m : ℕ) (bytes : List ℕ) (given : Matrix) → MarksOf 6 m [] bytes given → Shows given bytes 0 0
kept m bytes given s =
    record {
      six = s.states_said;
      byte_is = (s.zero_exactly_if_equal 0 1 (omega arith) (omega arith)).1 (at_rest 0 1);
      rounds_are = no_rounds _ _ _ settled_at_rest s.rounds_are;
    }

pub first : Near steps_e 1 (0, 1) ≡ true
unfolding chart_e steps_at chain full bisimulation_round matched each some all_of any_of implies both either leaves
first = refl

pub marks_not_idle : (b : Build) → Meets MarksPromise b → NotIdle Near 0 1 b
marks_not_idle b meets = not_idle 0 2 always_answered (struck 3) (kept 3) first (λ e. omega arith) (omega arith) b meets 1
