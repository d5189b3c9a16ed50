-- What a formula means in a chart of m actions with these steps, given a set T standing for the variable (000, 001).
use Rattle.std.specs.Prelude.{ℕ, Bool, true, false, List, eqb}
use Rattle.settle.specs.Test.{both, either, any_of, all_of, some, each}
use Rattle.settle.specs.Finite.{below}
use Rattle.chart.specs.Chart.{Step}
use Rattle.sheet.specs.Formula.{Label, only, every, Formula, variable, top, bottom, and, or, diamond, box}

-- t is an a-step from s
unfoldable pub leaves : ℕ → ℕ → Step → Bool
leaves s a t = both (eqb t.source s) (eqb t.action a)

-- some a-step from s reaches P; every a-step from s does
unfoldable pub some_step : List Step → ℕ → (ℕ → Bool) → ℕ → Bool
some_step steps a P s = some (leaves s a) (λ t. P t.target) steps

unfoldable pub every_step : List Step → ℕ → (ℕ → Bool) → ℕ → Bool
every_step steps a P s = each (leaves s a) (λ t. P t.target) steps

-- every action: the or of the diamonds, the and of the boxes, over all m actions
unfoldable pub some_label : ℕ → List Step → Label → (ℕ → Bool) → ℕ → Bool
some_label m steps (only a) P s = some_step steps a P s
some_label m steps every P s = any_of (λ a. some_step steps a P s) (below m)

unfoldable pub every_label : ℕ → List Step → Label → (ℕ → Bool) → ℕ → Bool
every_label m steps (only a) P s = every_step steps a P s
every_label m steps every P s = all_of (λ a. every_step steps a P s) (below m)

-- the states where the formula holds
unfoldable pub holds : ℕ → List Step → Formula → (ℕ → Bool) → ℕ → Bool
holds m steps variable T s = T s
holds m steps top T s = true
holds m steps bottom T s = false
holds m steps (and f g) T s = both (holds m steps f T s) (holds m steps g T s)
holds m steps (or f g) T s = either (holds m steps f T s) (holds m steps g T s)
holds m steps (diamond l f) T s = some_label m steps l (holds m steps f T) s
holds m steps (box l f) T s = every_label m steps l (holds m steps f T) s
