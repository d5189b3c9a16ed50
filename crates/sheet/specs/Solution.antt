-- The solution of a sheet's equation X = F(X) in a chart, and the rounds in which it is found.
use Rattle.std.specs.Prelude.{ℕ, Bool, true, false, ltb}
use Rattle.settle.specs.Finite.{below}
use Rattle.settle.specs.Chain.{empty, full, chain, LeastSolution, GreatestSolution, Rounds}
use Rattle.settle.specs.Test.{pick}
use Rattle.chart.specs.Chart.{Chart, states, actions}
use Rattle.sheet.specs.Formula.{Formula}
use Rattle.sheet.specs.Meaning.{holds}

-- 1 least, 2 greatest, and 0, unsaid, is read as least (document 02, T-06)
abbrev pub asks_least : ℕ → Bool
asks_least kind = ltb kind 2

-- F(T): the states where the formula holds, with T standing for the variable
abbrev pub applied : Chart → Formula → (ℕ → Bool) → ℕ → Bool
applied c f = holds (actions c) c.steps f

abbrev pub SolutionBy : Bool → Chart → Formula → ℕ → Type 0
SolutionBy true c f = LeastSolution (below (states c)) (applied c f)
SolutionBy false c f = GreatestSolution (below (states c)) (applied c f)

-- state s satisfies the sheet
abbrev pub Satisfies : Chart → ℕ → Formula → ℕ → Type 0
Satisfies c kind = SolutionBy (asks_least kind) c

-- k applications, from the empty set (least) or all n states (greatest)
abbrev pub applications : Chart → ℕ → Formula → ℕ → ℕ → Bool
applications c kind f = chain (applied c f) (pick (asks_least kind) empty full)

abbrev pub SheetRounds : Chart → ℕ → Formula → ℕ → Type 0
SheetRounds c kind f = Rounds (below (states c)) (applications c kind f)
