-- The promise of the property question: which states of a chart satisfy a sheet, how many they are, and the rounds; or the refusal.
use Rattle.std.specs.Prelude.{ℕ, ◌≤◌, ◌<◌, ◌^◌, ◌≡◌, ◌↔◌, List}
use Rattle.std.proofs.Math.Bool.{So}
use Rattle.settle.specs.Test.{count}
use Rattle.settle.specs.Finite.{below}
use Rattle.settle.specs.Chain.{Settled}
use Rattle.refusal.specs.Refusal.{lent_refusal}
use Rattle.refusal.specs.declared.Refusal.{Refusal}
use Rattle.chart.specs.Chart.{Chart, states}
use Rattle.sheet.specs.Formula.{Formula}
use Rattle.sheet.specs.Solution.{Satisfies, SheetRounds, applications}
use Rattle.words.specs.Words.{member}
use Rattle.solve.specs.declared.Solved.{Solved}
use Rattle.property.specs.SheetPromise.{SheetPromise}
use Rattle.std.specs.Prelude.{Result, Ok, Err}

-- the word has a bit for exactly the states that satisfy the sheet, the count is how many they are, the rounds are the least k such that k
-- applications equal k + 1
pub record Solution (c : Chart) (kind : ℕ) (f : Formula) (a : Solved) : Type 0 where
  pub bit_exactly : (s : ℕ) → s < states c → So (member a.word s) ↔ Satisfies c kind f s
  pub no_bit_above : a.word < 2 ^ states c
  pub count_is : a.count ≡ count (member a.word) (below (states c))
  pub rounds_least : SheetRounds c kind f a.rounds
  pub rounds_few : a.rounds ≤ states c

-- 15: 4,096 rounds are done and a further one still changes the answer
pub record Unsettled (c : Chart) (kind : ℕ) (f : Formula) (r : Refusal) : Type 0 where
  pub refusal_is : r ≡ lent_refusal 15
  pub none_settled : (k : ℕ) → k ≤ 4096 → Settled (below (states c)) (applications c kind f) k → ⊥

abbrev pub Answers : Chart → ℕ → Formula → Result Solved Refusal → Type 0
Answers c kind f (Ok a) = Solution c kind f a
Answers c kind f (Err r) = Unsettled c kind f r

abbrev pub PropertyPromise : List ℕ → List ℕ → Result Solved Refusal → Type 0
PropertyPromise = SheetPromise Err Answers
