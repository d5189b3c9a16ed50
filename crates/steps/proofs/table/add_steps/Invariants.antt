use Prim.Native.Nat.{ℕ, ◌+◌, ◌≤◌, ◌<◌}
use Rattle.chart.specs.Reading.{steps_at}
use Rattle.steps.specs.Table.{Table, triple_at, directed}
use Rattle.steps.proofs.table.add_steps.Given as goal

-- the triples before i are in, and those from `first` on are of no later source
abbrev pub invariant-loop-i : goal.invariant-loop-i
invariant-loop-i l =
    record {
      table : Table l.chart.shape.n l.chart.shape.m (directed l.direction (steps_at l.chart.bytes.now (4 + l.chart.shape.n + l.chart.shape.m) l.i)) l.into;
      sources : (j : ℕ) → l.first ≤ j → j < l.i → (triple_at l.chart.bytes.now l.chart.shape j).source ≤ l.s;
    }
