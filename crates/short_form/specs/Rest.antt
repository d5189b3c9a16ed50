-- Charts that rest (document 02, T-05), and the house form that name 3 had before, which took it that none does.
use Rattle.std.specs.Prelude.{ℕ, ◌<◌, ◌≤◌, List}
use Rattle.chart.specs.Chart.{Step, Chart, states}
use Rattle.sheet.specs.Formula.{every, Formula, variable, bottom, or, box}
use Rattle.short_form.specs.Reachable.{Stuck, Run}

-- or F, box 255 X; the kind was 1, as it still is
abbrev pub house_form : Formula → Formula
house_form f = or f (box every variable)

-- F or at rest
abbrev pub or_rest : Formula → Formula
or_rest f = or f (box every bottom)

-- no state of the chart rests
abbrev pub NeverRests : Chart → Type 0
NeverRests c = (u : ℕ) → u < states c → Stuck c.steps u → ⊥

-- some run from s rests before it comes to F: it is stuck at its last state, and F holds neither there nor before
pub record RestsBefore (steps : List Step) (F : ℕ → Type 0) (s : ℕ) : Type 0 where
  pub at : ℕ → ℕ
  pub run : Run steps s at
  pub last : ℕ
  pub rests : Stuck steps (at last)
  pub without : (k : ℕ) → k ≤ last → F (at k) → ⊥
