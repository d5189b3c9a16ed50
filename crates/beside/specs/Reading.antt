-- Reading two charts to put them side by side, in document 02's order of refusals: all of the first, all of the second, then 18, 19 and 20.
use Rattle.std.specs.Prelude.{List, ℕ}
use Rattle.refusal.specs.Refusal.{of_second}
use Rattle.refusal.specs.declared.Refusal.{Refusal}
use Rattle.chart.specs.Chart.{Chart}
use Rattle.chart.specs.Reading.{chart_in, read_chart}
use Rattle.beside.specs.Beside.{judge_together}
use Rattle.std.specs.Prelude.{Result, Ok, Err}
use Rattle.chart.specs.declared.Shape.{Shape}
use Rattle.chart.specs.Reading.{Judged}

-- two charts that can stand side by side, or the refusal
pub data TwoRead : Type 0 where
  two : Chart → Chart → TwoRead
  refused : Refusal → TwoRead

abbrev pub where_together : Judged → Chart → Chart → TwoRead
where_together (Ok tt) c d = two c d
where_together (Err r) c d = refused r

-- the second chart is in these bytes
abbrev pub read_second : List ℕ → Chart → Result Shape Refusal → TwoRead
read_second s c (Ok shape) = where_together (judge_together c (chart_in s shape)) c (chart_in s shape)
read_second s c (Err r) = refused (of_second r)

-- the first chart is in the bytes `first`
abbrev pub read_first : List ℕ → List ℕ → Result Shape Refusal → TwoRead
read_first first second (Ok shape) = read_second second (chart_in first shape) (read_chart second)
read_first first second (Err r) = refused r

abbrev pub read_two : List ℕ → List ℕ → TwoRead
read_two first second = read_first first second (read_chart first)
