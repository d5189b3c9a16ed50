-- What every question that solves a sheet promises, whatever its answers are: those of property, and of both solutions.
use Rattle.std.specs.Prelude.{ℕ, ◌≡◌, List}
use Rattle.refusal.specs.declared.Refusal.{Refusal}
use Rattle.chart.specs.Chart.{Chart}
use Rattle.chart.specs.Reading.{read_chart, chart_in}
use Rattle.chart.specs.declared.Shape.{Shape}
use Rattle.sheet.specs.Formula.{Formula}
use Rattle.sheet.specs.Reading.{sheet, refused, read_sheet}
use Rattle.std.specs.Prelude.{Ok, Err}

-- refused as the readers refuse, the chart before the sheet; where both are accepted, answered: Answers is what an answer says of the chart, the
-- sheet's kind and its formula
pub record SheetPromise {A : Type 0} (refused_with : Refusal → A) (Answers : Chart → ℕ → Formula → A → Type 0) (chart bytes : List ℕ) (answer : A) : Type 0 where
  pub chart_refused : (r : Refusal) → read_chart chart ≡ Err r → answer ≡ refused_with r
  pub sheet_refused : (sh : Shape) (r : Refusal) → read_chart chart ≡ Ok sh → read_sheet bytes sh.m ≡ refused r → answer ≡ refused_with r
  pub both_accepted : (sh : Shape) (kind nodes : ℕ) (f : Formula) → read_chart chart ≡ Ok sh → read_sheet bytes sh.m ≡ sheet kind nodes f
      → Answers (chart_in chart sh) kind f answer
