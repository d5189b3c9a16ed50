-- Idle builds of writing the reasons: document 01's, those of bytes in a lent buffer (Written.antt) and the first round; and two that a tired
-- programmer would write. `reasons_not_idle` of proofs/ says that none meets the promise.
use Rattle.std.specs.Prelude.{ℕ, ◌<◌, ◌≡◌, take}
use Rattle.std.proofs.Math.Bool.{So}
use mathlib.Core.List.{List, Memᴰ as Mem}
use Rattle.chart.specs.Chart.{Chart}
use Rattle.chart.specs.Reading.{chart_in, read_chart}
use Rattle.chart.specs.declared.Shape.{Shape}
use Rattle.nearness.specs.Relation.{Near}
use Rattle.reason.specs.Line.{Line, pair_of, list_bytes}
use Rattle.reasons.specs.Promise.{ReasonsPromise}
use Rattle.idle.specs.Slice.{Slice}
use Rattle.idle.specs.Written as Written
use Rattle.std.specs.Prelude.{Result, Ok}
use Rattle.refusal.specs.declared.Refusal.{Refusal}

abbrev pub Promise : Slice → List ℕ → List ℕ → Result ℕ Refusal → Type 0
Promise chart = ReasonsPromise chart.0

-- what holds where a build answers, of the chart and of each line that it wrote
pub record WhereAnswered (Says : Chart → Line → Type 0) (b : Written.Build Slice) : Type 0 where
  pub said : (chart old : Slice) (sh : Shape) (size : ℕ) (lines : List Line) → read_chart chart.0 ≡ Ok sh → (b chart old).0 ≡ Ok size
      → take size (b chart old).1 ≡ list_bytes lines → (l : Line) → Mem l lines → Says (chart_in chart.0 sh) l

-- a real first round, and nothing after it: only pairs that are not in R1 have a line
abbrev pub FirstRoundOnly : Written.Build Slice → Type 0
FirstRoundOnly = WhereAnswered (λ c l. So (Near c.steps 1 (pair_of l)) → ⊥)

-- each pair in one order only
abbrev pub OneOrderOnly : Written.Build Slice → Type 0
OneOrderOnly = WhereAnswered (λ c l. l.p < l.q)

-- actions by their codes
abbrev pub WritesCodes : Written.Build Slice → Type 0
WritesCodes = WhereAnswered (λ c l. Mem l.action c.codes)

pub record NotIdle (b : Written.Build Slice) : Type 0 where
  pub not_idle : Written.NotIdle b
  pub not_first_round : FirstRoundOnly b → ⊥
  pub not_one_order : OneOrderOnly b → ⊥
  pub not_codes : WritesCodes b → ⊥
