-- The rounds of a sheet exist and are at most n, and what they end at is the states that satisfy it. Assumes nothing.
use mathlib.Core.Bool.{Bool, true, false, So}
use mathlib.Core.Logic.{◌↔◌}
use mathlib.Core.Path.{◌≡◌, sym, ◌∙◌}
use mathlib.Core.List.{List}
use Prim.Native.Nat.{ℕ, ◌≤◌, ◌<◌}
use native.Mathlib.Omega.{arith}
use Rattle.settle.specs.Finite.{below}
use Rattle.settle.specs.Chain.{Monotone, empty, full, chain, Settled, Rounds}
use Rattle.settle.proofs.Finite.{below_i, below_length}
use Rattle.settle.proofs.Chain.{least_rounds, greatest_rounds, least_solution, greatest_solution, least_in_greatest, rounds_unique}
use Rattle.settle.specs.Test.{pick}
use Rattle.chart.specs.Chart.{Chart, states, actions}
use Rattle.chart.specs.Layout.{WellFormed}
use Rattle.chart.specs.Reading.{chart_in, read_chart}
use Rattle.chart.specs.declared.Shape.{Shape}
use Rattle.chart.proofs.Accepted.{each_step}
use Rattle.chart.proofs.Steps.{bytes_at_length}
use Rattle.sheet.specs.Formula.{Formula, variable_free}
use Rattle.sheet.specs.Solution.{asks_least, applied, SolutionBy, Satisfies, applications, SheetRounds}
use Rattle.sheet.proofs.Meaning.{TargetsBelow, holds_monotone, free_same}
use Rattle.std.specs.Prelude.{Ok}

-- the steps of a chart that follows the layout stay in it
pub targets_below : (c : Chart) → WellFormed c → TargetsBelow (states c) c.steps
targets_below c w t m = (w.steps_in t m).target_in

-- and so do those of a chart that was read
pub read_targets : (s : List ℕ) (sh : Shape) → read_chart s ≡ Ok sh → TargetsBelow (states (chart_in s sh)) (chart_in s sh).steps
read_targets s sh e = let n = bytes_at_length s 1 sh.n in rw n (λ u i. (each_step s sh e u i).target_in)

module _ (c : Chart) (targets : TargetsBelow (states c) c.steps) (f : Formula) where
  abbrev from : Bool → ℕ → ℕ → Bool
  from least = chain (applied c f) (pick least empty full)

  monotone : Monotone (below (states c)) (applied c f)
  monotone = holds_monotone (actions c) (states c) c.steps targets f

  rounds_from : (least : Bool) → (k : ℕ) × (k ≤ states c) × Rounds (below (states c)) (from least) k
  rounds_from true = let r = least_rounds (below (states c)) (applied c f) monotone in (r.0, omega (arith, below_length (states c)), r.2)
  rounds_from false = let r = greatest_rounds (below (states c)) (applied c f) monotone in (r.0, omega (arith, below_length (states c)), r.2)

  solution_from : (least : Bool) (k : ℕ) → Settled (below (states c)) (from least) k → (s : ℕ) → s < states c → So (from least k s) ↔ SolutionBy least c f s
  solution_from true k e s h = least_solution (below (states c)) (applied c f) monotone k e s (below_i _ s h)
  solution_from false k e s h = greatest_solution (below (states c)) (applied c f) monotone k e s (below_i _ s h)

  -- the least solution lies inside the greatest
  pub least_inside : (s : ℕ) → s < states c → SolutionBy true c f s → SolutionBy false c f s
  least_inside s h = least_in_greatest (below (states c)) (applied c f) monotone s (below_i _ s h)

  -- a formula without variable has one solution only
  pub greatest_inside : So (variable_free f) → (s : ℕ) → s < states c → SolutionBy false c f s → SolutionBy true c f s
  greatest_inside free s h (T, inside, t) U closed = let i = below_i (states c) s h in closed s i (sym (free_same (actions c) c.steps f free T U s) ∙ inside s i t)

  module _ (kind : ℕ) where
    pub sheet_rounds : (k : ℕ) × (k ≤ states c) × SheetRounds c kind f k
    sheet_rounds = rounds_from (asks_least kind)

    pub sheet_rounds_le : (k : ℕ) → SheetRounds c kind f k → k ≤ states c
    sheet_rounds_le k h = let r = sheet_rounds in omega (arith, rounds_unique (below (states c)) (applications c kind f) k r.0 h r.2)

    pub satisfies_iff : (k : ℕ) → Settled (below (states c)) (applications c kind f) k → (s : ℕ) → s < states c → So (applications c kind f k s) ↔ Satisfies c kind f s
    satisfies_iff = solution_from (asks_least kind)
