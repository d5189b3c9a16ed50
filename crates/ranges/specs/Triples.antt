-- The steps of a chart whose triples are at hand.
use Rattle.std.specs.Prelude.{List}
use Rattle.chart.specs.Chart.{Step}
use Rattle.ranges.specs.Sources.{steps_by}
use Rattle.ranges.specs.declared.Triples.{Triples}

abbrev pub steps_of : Triples → List Step
steps_of t = steps_by t.bytes.now t.at t.shape.n t.first
