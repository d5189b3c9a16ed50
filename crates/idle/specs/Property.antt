-- Document 01's idle builds of the property question. A build gives the answer for every chart and every sheet; no buffer is lent.
-- `property_not_idle` of proofs/ says that none of the four meets the promise.
use Rattle.std.specs.Prelude.{ℕ, ◌<◌, ◌≡◌}
use Rattle.refusal.specs.declared.Refusal.{Refusal}
use Rattle.chart.specs.Reading.{read_chart, chart_in}
use Rattle.chart.specs.declared.Shape.{Shape}
use Rattle.sheet.specs.Formula.{Formula}
use Rattle.sheet.specs.Reading.{sheet, read_sheet}
use Rattle.sheet.specs.Solution.{applications}
use Rattle.words.specs.Words.{member}
use Rattle.property.specs.Promise.{PropertyPromise}
use Rattle.solve.specs.declared.Solved.{Solved}
use Rattle.idle.specs.Slice.{Slice}
use Rattle.std.specs.Prelude.{Result, Ok, Err}

abbrev pub Build : Type 0
Build = Slice → Slice → Result Solved Refusal

abbrev pub Meets : Build → Type 0
Meets b = (chart sheet : Slice) → PropertyPromise chart.0 sheet.0 (b chart sheet)

abbrev pub RefusesEverything : Build → Type 0
RefusesEverything b = (chart sheet : Slice) → (r : Refusal) × (b chart sheet ≡ Err r)

-- the same word for every sheet
abbrev pub SameAlways : Build → Type 0
SameAlways b = (word : Slice → ℕ) × ((chart sheet : Slice) (a : Solved) → b chart sheet ≡ Ok a → a.word ≡ word chart)

-- one application, copied after
abbrev pub CopiesFirstRound : Build → Type 0
CopiesFirstRound b = (chart bytes : Slice) (sh : Shape) (kind nodes : ℕ) (f : Formula) (a : Solved)
    → read_chart chart.0 ≡ Ok sh → read_sheet bytes.0 sh.m ≡ sheet kind nodes f → b chart bytes ≡ Ok a
    → (s : ℕ) → s < sh.n → member a.word s ≡ applications (chart_in chart.0 sh) kind f 1 s

-- the same rounds for every sheet
abbrev pub InventsRounds : Build → Type 0
InventsRounds b = (rounds : Slice → ℕ) × ((chart sheet : Slice) (a : Solved) → b chart sheet ≡ Ok a → a.rounds ≡ rounds chart)

pub record NotIdle (b : Build) : Type 0 where
  pub not_refusing : RefusesEverything b → ⊥
  pub not_same : SameAlways b → ⊥
  pub not_first_round : CopiesFirstRound b → ⊥
  pub not_invented : InventsRounds b → ⊥
