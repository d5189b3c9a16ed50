-- Idle builds of the question for both solutions: document 01's, where they apply, and two more, by which somebody would answer what he has at hand. A
-- build gives the answer for every chart and every sheet; no buffer is lent. `both_not_idle` of proofs/ says that none of the six meets the promise.
use Rattle.std.specs.Prelude.{ℕ, ◌<◌, ◌≡◌, ◌⊎◌}
use Rattle.refusal.specs.declared.Refusal.{Refusal}
use Rattle.chart.specs.Chart.{Chart, states}
use Rattle.chart.specs.Reading.{read_chart, chart_in}
use Rattle.chart.specs.declared.Shape.{Shape}
use Rattle.sheet.specs.Formula.{Formula}
use Rattle.sheet.specs.Reading.{sheet, read_sheet}
use Rattle.sheet.specs.Solution.{applications}
use Rattle.words.specs.Words.{member}
use Rattle.solve.specs.declared.Solved.{Solved}
use Rattle.property.specs.Promise.{Solution}
use Rattle.both_solutions.specs.Promise.{BothPromise}
use Rattle.both_solutions.specs.declared.Solutions.{Solutions}
use Rattle.idle.specs.Slice.{Slice}
use Rattle.std.specs.Prelude.{Result, Ok, Err}

abbrev pub Build : Type 0
Build = Slice → Slice → Result Solutions Refusal

abbrev pub Meets : Build → Type 0
Meets b = (chart sheet : Slice) → BothPromise chart.0 sheet.0 (b chart sheet)

abbrev pub RefusesEverything : Build → Type 0
RefusesEverything b = (chart sheet : Slice) → (r : Refusal) × (b chart sheet ≡ Err r)

-- one half of every answer is idle, whatever the other is
abbrev pub OneHalf : ((Solutions → Solved) → Type 0) → Type 0
OneHalf Idle = Idle (λ a. a.least) ⊎ Idle (λ a. a.greatest)

-- the same word for every sheet
abbrev pub SameAlways : Build → Type 0
SameAlways b = OneHalf (λ half. (word : Slice → ℕ) × ((chart sheet : Slice) (a : Solutions) → b chart sheet ≡ Ok a → (half a).word ≡ word chart))

-- the same rounds for every sheet
abbrev pub InventsRounds : Build → Type 0
InventsRounds b = OneHalf (λ half. (rounds : Slice → ℕ) × ((chart sheet : Slice) (a : Solutions) → b chart sheet ≡ Ok a → (half a).rounds ≡ rounds chart))

-- what is so of every answer to an accepted chart and sheet: its kind, its formula, the solutions
abbrev pub Always : Build → (Chart → ℕ → Formula → Solutions → Type 0) → Type 0
Always b Says = (chart bytes : Slice) (sh : Shape) (kind nodes : ℕ) (f : Formula) (a : Solutions)
    → read_chart chart.0 ≡ Ok sh → read_sheet bytes.0 sh.m ≡ sheet kind nodes f → b chart bytes ≡ Ok a → Says (chart_in chart.0 sh) kind f a

-- one application from the empty set, or from all states, copied after
abbrev pub CopiesFirstRound : Build → Type 0
CopiesFirstRound b =
    Always b (λ c kind f a. (s : ℕ) → s < states c → member a.least.word s ≡ applications c 1 f 1 s)
    ⊎ Always b (λ c kind f a. (s : ℕ) → s < states c → member a.greatest.word s ≡ applications c 2 f 1 s)

-- the greatest first
abbrev pub GreatestFirst : Build → Type 0
GreatestFirst b = Always b (λ c kind f a. Solution c 2 f a.least)

-- what the sheet's own kind asks for, twice
abbrev pub OwnTwice : Build → Type 0
OwnTwice b = Always b (λ c kind f a. Solution c kind f a.least × Solution c kind f a.greatest)

pub record NotIdle (b : Build) : Type 0 where
  pub not_refusing : RefusesEverything b → ⊥
  pub not_same : SameAlways b → ⊥
  pub not_first_round : CopiesFirstRound b → ⊥
  pub not_invented : InventsRounds b → ⊥
  pub not_greatest_first : GreatestFirst b → ⊥
  pub not_own_twice : OwnTwice b → ⊥
