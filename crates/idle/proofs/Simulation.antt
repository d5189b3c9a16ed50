-- No idle build meets the promise of simulation. Assumes nothing.
use Prim.Native.Nat.{ℕ}
use mathlib.Core.Path.{◌≡◌, refl}
use mathlib.Core.Bool.{Bool, true, false}
use mathlib.Core.List.Memᴰ.{head as here}
use mathlib.Core.List.Memᴰ.{tail as there}
use mathlib.Core.List.{List, [], ◌∷◌}
use native.Mathlib.Omega.{arith}
use Rattle.settle.specs.Test.{both, either, implies, neg, same, any_of, all_of, some, each}
use Rattle.settle.specs.Finite.{below, product, pairs}
use Rattle.settle.specs.Chain.{full, chain, Settled, Rounds, settled, stops}
use Rattle.settle.proofs.Chain.{rounds_unique, stops_e}
use Rattle.chart.specs.Chart.{Chart}
use Rattle.chart.specs.Reading.{steps_at, chart_in}
use Rattle.sheet.specs.Meaning.{leaves}
use Rattle.nearness.specs.Relation.{matched, simulation_round, Simulating}
use Rattle.nearness.specs.Bisimulation.{Simulates}
use Rattle.starred.specs.Boards.{chart_e, starred, Truth, SimulationsAre, Holds}
use Rattle.starred.proofs.Boards.{starred_boards_hold, of_chart, shape_e, read_e}
use Rattle.relation.specs.declared.Matrix.{Matrix}
use Rattle.simulation.specs.Promise.{SimulationOf, SimulationPromise}
use Rattle.simulation.proofs.Promise.{always_answered}
use Rattle.idle.specs.Matrix.{Build, Meets, NotIdle}
use Rattle.idle.proofs.AtRest.{any_simulation, no_rounds}
use Rattle.idle.proofs.Matrix.{Shows, steps_e, not_idle}

second : (x y : (ℕ × ℕ) × Bool) (rest : List ((ℕ × ℕ) × Bool)) (c : Chart) → SimulationsAre (x ∷ y ∷ rest) c → Truth y.1 (Simulates c.steps y.0.0 y.0.1)
unfolding SimulationsAre
second x y rest c h = h.1.0

-- 1 does not simulate 0
pub board : Simulates steps_e 0 1 → ⊥
unfolding starred Holds
board = second ((1, 0), true) ((0, 1), false) _ (chart_in chart_e shape_e) (of_chart (SimulationsAre _) chart_e shape_e read_e (starred_boards_hold _ (there (here refl))))

-- which the board does not ask
rounds_of_e : Rounds (pairs 6) (Simulating steps_e) 2
unfolding chart_e steps_at stops settled pairs product below same neg chain full simulation_round matched each some all_of any_of implies both either leaves
rounds_of_e = stops_e (pairs 6) (Simulating steps_e) 2 refl

struck : (bytes : List ℕ) (given : Matrix) → SimulationOf 6 steps_e bytes given → Shows given bytes 0 2
struck bytes given s =
    record {
      six = s.states_said;
      byte_is = s.else_zero 0 1 (omega arith) (omega arith) (λ e. board ((s.one_exactly_if_simulates 0 1 (omega arith) (omega arith)).0 e));
      rounds_are = rounds_unique _ _ _ 2 s.rounds_are rounds_of_e;
    }

settled_at_rest : Settled (pairs 6) (Simulating []) 0
unfolding chain full simulation_round matched each all_of
settled_at_rest x m = refl

kept : (bytes : List ℕ) (given : Matrix) → SimulationOf 6 [] bytes given → Shows given bytes 1 0
kept bytes given s =
    record {
      six = s.states_said;
      byte_is = (s.one_exactly_if_simulates 0 1 (omega arith) (omega arith)).1 ((λ p q. true), any_simulation _, refl);
      rounds_are = no_rounds _ _ _ settled_at_rest s.rounds_are;
    }

first : Simulating steps_e 1 (0, 1) ≡ true
unfolding chart_e steps_at chain full simulation_round matched each some all_of any_of implies both either leaves
first = refl

pub simulation_not_idle : (b : Build) → Meets SimulationPromise b → NotIdle Simulating 1 0 b
simulation_not_idle b meets = not_idle 1 0 always_answered struck kept first (λ e. omega arith) (omega arith) b meets 0
