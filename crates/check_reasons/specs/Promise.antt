-- What check_reasons promises, for any bytes as chart and list.
use Rattle.std.specs.Prelude.{ℕ, ◌+◌, ◌*◌, ◌≤◌, ◌<◌, ◌≡◌, List, length}
use Rattle.refusal.specs.Refusal.{sheet_refusal}
use Rattle.chart.specs.Chart.{Step}
use Rattle.chart.specs.Reading.{chart_in, read_chart}
use Rattle.reason.specs.Line.{line_at, lines_in}
use Rattle.reason.specs.Good.{GoodLine, Good}
use Rattle.std.specs.Prelude.{Result, Ok, Err}
use Rattle.chart.specs.declared.Shape.{Shape}
use Rattle.refusal.specs.declared.Refusal.{Refusal}

-- the bytes are so many lines and nothing after, and the list is good
pub record Accepts (n : ℕ) (steps : List Step) (list : List ℕ) (lines : ℕ) : Type 0 where
  pub whole : length list ≡ 5 * lines
  pub good : Good n steps (lines_in list lines)

-- line number i is the first that is bad or incomplete
pub record FirstBad (n : ℕ) (steps : List Step) (list : List ℕ) (i : ℕ) : Type 0 where
  pub begun : 5 * i < length list
  pub earlier_good : Good n steps (lines_in list i)
  pub bad : 5 * i + 5 ≤ length list → GoodLine n steps (lines_in list i) (line_at list (5 * i)) → ⊥

-- the number of lines; 21 with the number of the first bad or incomplete line, of input 1
abbrev pub Judges : ℕ → List Step → List ℕ → Result ℕ Refusal → Type 0
Judges n steps list (Ok lines) = Accepts n steps list lines
Judges n steps list (Err r) = (i : ℕ) × (r ≡ sheet_refusal 21 i) × FirstBad n steps list i

-- the chart's refusals first
abbrev pub Answers : List ℕ → Result Shape Refusal → List ℕ → Result ℕ Refusal → Type 0
Answers chart (Err r) list answer = answer ≡ Err r
Answers chart (Ok sh) list answer = Judges sh.n (chart_in chart sh).steps list answer

abbrev pub CheckPromise : List ℕ → List ℕ → Result ℕ Refusal → Type 0
CheckPromise chart = Answers chart (read_chart chart)
