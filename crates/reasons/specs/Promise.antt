-- What reasons promises, for any bytes as chart and lent buffer.
use Rattle.std.specs.Prelude.{ℕ, List}
use Rattle.chart.specs.Chart.{Step}
use Rattle.chart.specs.Reading.{chart_in, read_chart}
use Rattle.lent.specs.Lent.{writes, refuses, LentPromise}
use Rattle.reason.specs.Line.{Line, list_bytes}
use Rattle.reason.specs.Own.{MarksAre, OwnList}
use Rattle.std.specs.Prelude.{Result, Ok, Err}
use Rattle.chart.specs.declared.Shape.{Shape}
use Rattle.refusal.specs.declared.Refusal.{Refusal}

-- a chart of n states with these steps: its own list fills the start of the lent buffer and later bytes stay, or 14 where the buffer is shorter. old is
-- the buffer before the call, new after
pub record Reasons (n : ℕ) (steps : List Step) (old new : List ℕ) (answer : Result ℕ Refusal) : Type 0 where
  pub mark : ℕ × ℕ → ℕ
  pub marks_are : MarksAre n steps mark
  pub lines : List Line
  pub own : OwnList n steps mark lines
  pub written : LentPromise (writes (list_bytes lines)) old new answer

-- a chart that is refused: its refusal, which leaves every byte
abbrev pub Answers : List ℕ → Result Shape Refusal → List ℕ → List ℕ → Result ℕ Refusal → Type 0
Answers chart (Err r) old new answer = LentPromise (refuses r) old new answer
Answers chart (Ok sh) old new answer = Reasons sh.n (chart_in chart sh).steps old new answer

abbrev pub ReasonsPromise : List ℕ → List ℕ → List ℕ → Result ℕ Refusal → Type 0
ReasonsPromise chart = Answers chart (read_chart chart)
