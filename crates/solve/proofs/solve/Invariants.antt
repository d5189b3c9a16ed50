use mathlib.Core.Path.{◌≡◌}
use Rattle.sheet.specs.Kinds.{kind_number}
use Rattle.solve.specs.Solving.{first_set}
use Rattle.solve.proofs.Solving.{Going}
use Rattle.solve.proofs.solve.Given as goal

abbrev pub invariant-loop-rounds : goal.invariant-loop-rounds
invariant-loop-rounds l = record {
  same_n : l.work.n ≡ l.chart.shape.n;
  same_m : l.work.m ≡ l.chart.shape.m;
  same_sheet : l.work.sheet.now ≡ l.sheet;
  going : Going l.chart.bytes.now l.chart.shape l.sheet l.nodes (first_set (kind_number l.fn.kind)) l.work.words.now l.set l.rounds;
}
