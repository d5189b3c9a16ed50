-- A text that was made in the start of a page of the report's own.
use Rattle.std.specs.Prelude.{ℕ, ◌≡◌, List, length, take}
use Rattle.text.specs.Text.{Added}
use Rattle.text.specs.declared.Page.{Page}
use Rattle.report.specs.Promise.{ReportOf}

pub record Made (chart : List ℕ) (size : ℕ) (page : List ℕ) : Type 0 where
  pub text : List ℕ
  pub is_report : ReportOf chart text
  pub size_is : size ≡ length text
  pub stands : take size page ≡ text

-- the same of a text that was put on a page
pub record Reported (chart : List ℕ) (old new : Page) : Type 0 where
  pub text : List ℕ
  pub is_report : ReportOf chart text
  pub added : Added old text new
