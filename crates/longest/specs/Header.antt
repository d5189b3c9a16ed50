-- What include/rebatelion.h says of its numbers. REBATELION_MAX_CHART and REBATELION_MAX_SHEET are 'the longest inputs that are accepted', and of the
-- second a buffer 'is always long enough' for a short form; so is one of REBATELION_MATRIX, REBATELION_MAX_STATES times itself, for a matrix, and one
-- of REBATELION_MAX_COMPARISON, which is no more than needed, for a comparison's list, and one of REBATELION_MAX_REASONS, no more than needed either,
-- for a list of reasons.
use Rattle.std.specs.Prelude.{ℕ, ◌*◌, ◌≤◌, ◌≡◌, List, length}
use Rattle.refusal.specs.declared.Refusal.{Refusal}
use Rattle.chart.specs.Chart.{Chart}
use Rattle.chart.specs.Layout.{Bytes}
use Rattle.chart.specs.Reading.{chart_in, read_chart}
use Rattle.chart.specs.declared.Shape.{Shape}
use Rattle.sheet.specs.Formula.{Formula}
use Rattle.sheet.specs.Reading.{sheet, read_sheet}
use Rattle.short_form.specs.Promise.{ShortFormPromise}
use Rattle.beside.specs.Reading.{two, read_two}
use Rattle.compare.specs.Comparison.{listed, Comparison}
use Rattle.compare.specs.Promise.{ComparePromise}
use Rattle.reason.specs.Line.{Line, list_bytes}
use Rattle.reason.specs.Own.{MarksAre, OwnList}
use Rattle.reasons.specs.Promise.{ReasonsPromise}
use Rattle.std.specs.Prelude.{Ok, Err}

-- two charts were read, there is a comparison of them, and the list of every one has so many bytes
pub record Reaches (first second : List ℕ) (size : ℕ) : Type 0 where
  pub c : Chart
  pub d : Chart
  pub read : read_two first second ≡ two c d
  pub some : (mark : ℕ) × (of_first of_second : List ℕ) × (rounds : ℕ) × Comparison c d mark of_first of_second rounds
  pub each : (mark : ℕ) (of_first of_second : List ℕ) (rounds : ℕ) → Comparison c d mark of_first of_second rounds → length (listed mark of_first of_second) ≡ size

-- a chart was read, there is an own list of reasons for it, and every one has so many bytes
pub record ReasonsReach (chart : List ℕ) (size : ℕ) : Type 0 where
  pub shape : Shape
  pub read : read_chart chart ≡ Ok shape
  pub some : (mark : ℕ × ℕ → ℕ) × (lines : List Line) × MarksAre shape.n (chart_in chart shape).steps mark × OwnList shape.n (chart_in chart shape).steps mark lines
  pub each : (mark : ℕ × ℕ → ℕ) (lines : List Line) → MarksAre shape.n (chart_in chart shape).steps mark → OwnList shape.n (chart_in chart shape).steps mark lines → length (list_bytes lines) ≡ size

pub record Header (max_states max_chart max_sheet max_comparison max_reasons : ℕ) : Type 0 where
  pub matrix_room : (s : List ℕ) (sh : Shape) → read_chart s ≡ Ok sh → sh.n * sh.n ≤ max_states * max_states
  pub charts_short : (s : List ℕ) (sh : Shape) → read_chart s ≡ Ok sh → length s ≤ max_chart
  pub chart_reaches : (s : List ℕ) × Bytes s × (sh : Shape) × (read_chart s ≡ Ok sh) × (length s ≡ max_chart)
  pub sheets_short : (s : List ℕ) (m kind count : ℕ) (f : Formula) → read_sheet s m ≡ sheet kind count f → length s ≤ max_sheet
  pub sheet_reaches : (m : ℕ) → m ≤ 32 → (s : List ℕ) × Bytes s × (kind count : ℕ) × (f : Formula) × (read_sheet s m ≡ sheet kind count f) × (length s ≡ max_sheet)
  pub room_enough : (chart s : List ℕ) (name : ℕ) (old new : List ℕ) (r : Refusal) → max_sheet ≤ length old → ShortFormPromise chart s name old new (Err r) → r.number ≡ 14 → ⊥
  pub comparison_room : (first second old new : List ℕ) (r : Refusal) → max_comparison ≤ length old → ComparePromise first second old new (Err r) → r.number ≡ 14 → ⊥
  pub comparison_reaches : (first second : List ℕ) × Bytes first × Bytes second × Reaches first second max_comparison
  pub reasons_room : (chart old new : List ℕ) (r : Refusal) → max_reasons ≤ length old → ReasonsPromise chart old new (Err r) → r.number ≡ 14 → ⊥
  pub reasons_reach : (chart : List ℕ) × Bytes chart × ReasonsReach chart max_reasons
