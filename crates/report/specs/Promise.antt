-- The report on a chart's bytes, and what `report` promises of it.
use Rattle.std.specs.Prelude.{ℕ, ◌<◌, ◌≡◌, List}
use Rattle.settle.specs.Finite.{pairs}
use Rattle.settle.specs.Chain.{Rounds}
use Rattle.chart.specs.Reading.{read_chart, chart_in}
use Rattle.chart.specs.declared.Shape.{Shape}
use Rattle.nearness.specs.Relation.{Near}
use Rattle.nearness.specs.Mark.{Mark}
use Rattle.lent.specs.Lent.{writes, LentPromise}
use Rattle.report.specs.Text.{refused_text, chart_text}
use Rattle.std.specs.Prelude.{Result, Ok, Err}
use Rattle.refusal.specs.declared.Refusal.{Refusal}

-- the text of an accepted chart: of its rounds and of the marks that its pairs bear
pub record ChartReport (chart : List ℕ) (sh : Shape) (text : List ℕ) : Type 0 where
  pub rounds : ℕ
  pub mark : ℕ → ℕ → ℕ
  pub rounds_are : Rounds (pairs sh.n) (Near (chart_in chart sh).steps) rounds
  pub marks_are : (p q : ℕ) → p < sh.n → q < sh.n → Mark (chart_in chart sh).steps p q (mark p q)
  pub text_is : text ≡ chart_text sh.n rounds mark

abbrev pub ReportBy : List ℕ → Result Shape Refusal → List ℕ → Type 0
ReportBy chart (Ok sh) text = ChartReport chart sh text
ReportBy chart (Err r) text = text ≡ refused_text r

-- the text that the program prints for a chart's bytes
abbrev pub ReportOf : List ℕ → List ℕ → Type 0
ReportOf chart text = ReportBy chart (read_chart chart) text

-- old is the lent buffer before the call, new after: the text is written to it
pub record ReportPromise (chart old new : List ℕ) (answer : Result ℕ Refusal) : Type 0 where
  pub text : List ℕ
  pub is_report : ReportOf chart text
  pub in_buffer : LentPromise (writes text) old new answer
