-- The byte matrix, in which a relation was worked out before it was held as words: what the cell of each pair holds after k rounds. It is 0 while the
-- pair is in the relation; a pair that falls out gets a byte that is not 0 and keeps it. A round reads the relation that the bytes hold.
use Rattle.std.specs.Prelude.{ℕ, zero, suc, Bool, true, false, List, eqb}
use Rattle.settle.specs.Test.{pick, both, neg}
use Rattle.settle.specs.Chain.{full, chain}
use Rattle.chart.specs.Chart.{Step}
use Rattle.nearness.specs.Relation.{Relation, bisimulation_round, simulation_round}

-- a round of marks matches both ways, a round of simulation one way
unfoldable pub round_of : Bool → List Step → Relation → Relation
round_of true = bisimulation_round
round_of false = simulation_round

-- the relation after k rounds
abbrev pub after : Bool → List Step → ℕ → Relation
after both_ways steps = chain (round_of both_ways steps) full

-- the byte by which round k + 1 strikes: its number for marks; for simulation 1
unfoldable pub struck_by : Bool → ℕ → ℕ
struck_by true k = suc k
struck_by false k = 1

-- the pairs whose cells are 0
abbrev pub zero_in : (ℕ × ℕ → ℕ) → Relation
zero_in cells x = eqb (cells x) 0

-- the cells after k rounds
unfoldable pub byte_after : Bool → List Step → ℕ → ℕ × ℕ → ℕ
byte_after both_ways steps zero x = 0
byte_after both_ways steps (suc k) x =
    pick (both (zero_in (byte_after both_ways steps k) x) (neg (round_of both_ways steps (zero_in (byte_after both_ways steps k)) x))) (struck_by both_ways k) (byte_after both_ways steps k x)
