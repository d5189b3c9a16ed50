-- The event sequences of a state: the lists of actions, each by its index, that can be followed from it step by step.
use Rattle.std.specs.Prelude.{ℕ, ◌≡◌, Bool, true, List, [], ◌∷◌}
use Rattle.chart.specs.Chart.{Step}
use Rattle.sheet.specs.Meaning.{some_step}

-- the first action is that of a step from s, to where the rest can be followed
unfoldable pub follows : List Step → List ℕ → ℕ → Bool
follows steps [] s = true
follows steps (a ∷ rest) s = some_step steps a (follows steps rest) s

-- each event sequence of either is one of the other
abbrev pub SameSequences : List Step → ℕ → ℕ → Type 0
SameSequences steps p q = (w : List ℕ) → follows steps w p ≡ follows steps w q
