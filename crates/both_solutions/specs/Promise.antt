-- The promise of the question for both solutions (document 02, T-06): of any accepted sheet, whatever its kind says, what `property` promises with
-- kind 1, least, and with kind 2, greatest; or the refusal.
use Rattle.std.specs.Prelude.{ℕ, List, ◌⊎◌}
use Rattle.chart.specs.Chart.{Chart}
use Rattle.sheet.specs.Formula.{Formula}
use Rattle.property.specs.SheetPromise.{SheetPromise}
use Rattle.property.specs.Promise.{Solution, Unsettled}
use Rattle.both_solutions.specs.declared.Solutions.{Solutions}
use Rattle.std.specs.Prelude.{Result, Ok, Err}
use Rattle.refusal.specs.declared.Refusal.{Refusal}

-- each with its word, its count and its rounds
pub record BothSolved (c : Chart) (f : Formula) (a : Solutions) : Type 0 where
  pub least_is : Solution c 1 f a.least
  pub greatest_is : Solution c 2 f a.greatest

-- the sheet's own kind is not asked; 15: 4,096 rounds from either end do not settle
abbrev pub Answers : Chart → ℕ → Formula → Result Solutions Refusal → Type 0
Answers c kind f (Ok a) = BothSolved c f a
Answers c kind f (Err r) = Unsettled c 1 f r ⊎ Unsettled c 2 f r

-- the chart's refusals, then the sheet's, as `property` has them
abbrev pub BothPromise : List ℕ → List ℕ → Result Solutions Refusal → Type 0
BothPromise = SheetPromise Err Answers
