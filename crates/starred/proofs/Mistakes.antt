-- What students try: two tests that pass on states of charts E and L that are not equal. Assumes nothing.
use Prim.Native.Nat.{ℕ, suc}
use mathlib.Core.Path.{◌≡◌, refl, ap, ◌∙◌}
use mathlib.Core.Bool.{Bool, true, false}
use mathlib.Core.List.{List, [], ◌∷◌}
use native.Mathlib.Omega.{arith}
use lib.Dec.{eqb, ltb}
use borrow.Author.Tests.{ltb-true}
use Rattle.settle.specs.Test.{both, either, implies, neg, same, any_of, all_of, some, each}
use Rattle.settle.specs.Finite.{below, product, pairs}
use Rattle.settle.specs.Chain.{full, chain, Settled, settled}
use Rattle.settle.proofs.Test.{never, all_e}
use Rattle.settle.proofs.Chain.{settled_iff}
use Rattle.chart.specs.Chart.{Step}
use Rattle.chart.specs.Reading.{read_chart, read_actions, read_transitions, judge_codes, judge_triples, bytes_at, steps_at}
use Rattle.sheet.specs.Meaning.{leaves, some_step}
use Rattle.sheet.proofs.Meaning.{TargetsBelow}
use Rattle.nearness.specs.Relation.{matched, simulation_round, bisimulation_round, Simulating}
use Rattle.nearness.specs.Bisimulation.{Of, Simulates, Bisimilar}
use Rattle.nearness.specs.Mark.{Mark}
use Rattle.nearness.specs.Sequence.{follows, SameSequences}
use Rattle.nearness.proofs.Bisimulation.{bisimulation_in, simulates_iff}
use Rattle.nearness.proofs.Mark.{mark_drop}
use Rattle.starred.specs.Boards.{InChart, chart_e, chart_l}

-- no strong bisimulation relates two states with a mark
told_apart : (steps : List Step) (p q d : ℕ) → Mark steps p q (suc d) → Bisimilar steps p q → ⊥
unfolding Mark
told_apart steps p q d m b = m.0 (bisimulation_in steps (Of b.0) b.1 (suc d) p q b.2)

-- ---- comparing event sequences: chart E

steps_e : List Step
steps_e = steps_at chart_e 13 7

regroup : (a b c : Bool) → either (both a c) (either (both b c) false) ≡ either (either (both a c) false) (either (both b c) false)
unfolding both either
regroup true b true = refl
regroup true b false = refl
regroup false b c = refl

distribute : (a b c : Bool) → either (both a (either b c)) false ≡ either (both a b) (either (both a c) false)
unfolding both either
distribute true true c = refl
distribute true false c = refl
distribute false b c = refl

-- what can be followed from 2, where 0's step leads, can be from 3 or 4, where 1's steps lead
after_step : (w : List ℕ) → follows steps_e w 2 ≡ either (follows steps_e w 3) (follows steps_e w 4)
unfolding steps_e chart_e steps_at follows some_step some any_of leaves both either
after_step [] = refl
after_step (a ∷ w) = regroup (eqb 1 a) (eqb 2 a) (follows steps_e w 5)

same_sequences : SameSequences steps_e 0 1
unfolding steps_e chart_e steps_at follows some_step some any_of leaves both either
same_sequences [] = refl
same_sequences (a ∷ w) = ap (λ b. either (both (eqb 0 a) b) false) (after_step w) ∙ distribute (eqb 0 a) (follows steps_e w 3) (follows steps_e w 4)

mark_of_e : Mark steps_e 0 1 2
unfolding steps_e chart_e steps_at chain full bisimulation_round matched each some all_of any_of implies both either leaves
mark_of_e = mark_drop steps_e 0 1 1 refl never

-- E's states 0 and 1 have the same event sequences, and are not equal
pub same_sequences_unequal : InChart chart_e (λ c. SameSequences c.steps 0 1 × Mark c.steps 0 1 2 × (Bisimilar c.steps 0 1 → ⊥))
unfolding steps_e chart_e read_chart read_actions read_transitions judge_codes judge_triples bytes_at steps_at
same_sequences_unequal = (record { n = 6; m = 3; t = 7 }, refl, (same_sequences, mark_of_e, told_apart steps_e 0 1 1 mark_of_e))

-- ---- simulation both ways: chart L

steps_l : List Step
steps_l = steps_at chart_l 8 3

mark_of_l : Mark steps_l 0 1 2
unfolding steps_l chart_l steps_at chain full bisimulation_round matched each some all_of any_of implies both either leaves
mark_of_l = mark_drop steps_l 0 1 1 refl never

targets_l : TargetsBelow 3 steps_l
unfolding steps_l chart_l steps_at all_of both
targets_l t m = ltb-true _ _ (all_e (λ t. ltb t.target 3) {xs = steps_l} refl m)

settled_l : Settled (pairs 3) (Simulating steps_l) 1
unfolding steps_l chart_l steps_at settled pairs product below same neg chain full simulation_round matched each some all_of any_of implies both either leaves
settled_l = (settled_iff (pairs 3) (Simulating steps_l) 1).0 refl

both_ways : Simulates steps_l 0 1 × Simulates steps_l 1 0
unfolding steps_l chart_l steps_at chain full simulation_round matched each some all_of any_of implies both either leaves
both_ways = ((simulates_iff 3 steps_l targets_l 0 1 (omega arith) (omega arith) 1 settled_l).0 refl, (simulates_iff 3 steps_l targets_l 1 0 (omega arith) (omega arith) 1 settled_l).0 refl)

-- L's states 0 and 1 simulate each other, and are not equal
pub simulate_each_other_unequal : InChart chart_l (λ c. Simulates c.steps 0 1 × Simulates c.steps 1 0 × Mark c.steps 0 1 2 × (Bisimilar c.steps 0 1 → ⊥))
unfolding steps_l chart_l read_chart read_actions read_transitions judge_codes judge_triples bytes_at steps_at
simulate_each_other_unequal = (record { n = 3; m = 1; t = 3 }, refl, (both_ways.0, both_ways.1, mark_of_l, told_apart steps_l 0 1 1 mark_of_l))
