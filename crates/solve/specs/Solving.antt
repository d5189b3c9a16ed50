-- What the rounds say of themselves. The promise cites none of it.
use Rattle.std.specs.Prelude.{ℕ, ◌≤◌, ◌≡◌, Bool, List}
use Rattle.settle.specs.Test.{pick, count}
use Rattle.settle.specs.Finite.{below}
use Rattle.settle.specs.Chain.{empty, full, chain, Settled, Rounds}
use Rattle.refusal.specs.Refusal.{lent_refusal}
use Rattle.chart.specs.Reading.{chart_in}
use Rattle.chart.specs.declared.Shape.{Shape}
use Rattle.sheet.specs.Meaning.{holds}
use Rattle.sheet.specs.Reading.{parse}
use Rattle.sheet.specs.Solution.{asks_least}
use Rattle.words.specs.Words.{word_of}
use Rattle.evaluate.specs.Evaluating.{formula_of}
use Rattle.solve.specs.declared.Solved.{Solved}
use Rattle.std.specs.Prelude.{Result, Ok, Err}
use Rattle.refusal.specs.declared.Refusal.{Refusal}

-- one application, for the bytes of a chart with these counts and of a sheet with so many nodes
abbrev pub application : List ℕ → Shape → List ℕ → ℕ → (ℕ → Bool) → ℕ → Bool
application chart shape sheet nodes = holds shape.m (chart_in chart shape).steps (formula_of (parse nodes sheet shape.m 3 nodes))

abbrev pub first_set : ℕ → ℕ → Bool
first_set kind = pick (asks_least kind) empty full

-- the word is that of the first applications of F, from S, that one more keeps
pub record Reached (n : ℕ) (F : (ℕ → Bool) → ℕ → Bool) (S : ℕ → Bool) (a : Solved) : Type 0 where
  pub word_is : a.word ≡ word_of n (chain F S a.rounds)
  pub count_is : a.count ≡ count (chain F S a.rounds) (below n)
  pub rounds_are : Rounds (below n) (chain F S) a.rounds
  pub rounds_few : a.rounds ≤ 4096

abbrev pub Solves : ℕ → ((ℕ → Bool) → ℕ → Bool) → (ℕ → Bool) → Result Solved Refusal → Type 0
Solves n F S (Ok a) = Reached n F S a
Solves n F S (Err r) = (r ≡ lent_refusal 15) × ((k : ℕ) → k ≤ 4096 → Settled (below n) (chain F S) k → ⊥)
