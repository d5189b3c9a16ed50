use Prim.Native.Nat.{◌+◌, ◌≤◌, ◌<◌}
use Rattle.chart.specs.Reading.{steps_at}
use Rattle.steps.specs.Table.{Table, triple_at, directed}
use Rattle.steps.proofs.table.fill.Given as goal

-- all triples are in whose source is below s
abbrev pub invariant-loop-s : goal.invariant-loop-s
invariant-loop-s l =
    record {
      few : l.i ≤ l.chart.shape.t;
      later : l.i < l.chart.shape.t → l.s ≤ (triple_at l.chart.bytes.now l.chart.shape l.i).source;
      table : Table l.chart.shape.n l.chart.shape.m (directed l.direction (steps_at l.chart.bytes.now (4 + l.chart.shape.n + l.chart.shape.m) l.i)) l.into;
    }
