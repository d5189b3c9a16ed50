-- What a sheet's kind asked for before T-06, for the sheets that were stored then.
use Rattle.std.specs.Prelude.{ℕ, Bool, eqb}
use Rattle.chart.specs.Chart.{Chart}
use Rattle.sheet.specs.Formula.{Formula}
use Rattle.sheet.specs.Solution.{SolutionBy}

-- 1 least, 2 greatest, and 0, unsaid, was read as greatest
abbrev pub asked_least : ℕ → Bool
asked_least kind = eqb kind 1

-- state s satisfied the sheet
abbrev pub Satisfied : Chart → ℕ → Formula → ℕ → Type 0
Satisfied c kind = SolutionBy (asked_least kind) c
