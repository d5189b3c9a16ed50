-- Marks, and what formulas tell apart.
use Rattle.std.specs.Prelude.{ℕ, zero, suc, ◌≡◌, Bool, List}
use Rattle.std.proofs.Math.Bool.{So}
use Rattle.settle.specs.Test.{both, neg}
use Rattle.settle.specs.Chain.{Least, empty}
use Rattle.chart.specs.Chart.{Step}
use Rattle.sheet.specs.Formula.{Formula, depth, variable_free}
use Rattle.sheet.specs.Meaning.{holds}
use Rattle.nearness.specs.Relation.{Near}

-- f has no variable and is true at one of p and q and false at the other
abbrev pub TellsApart : ℕ → List Step → Formula → ℕ → ℕ → Type 0
TellsApart m steps f p q = So (variable_free f) × (holds m steps f empty p ≡ holds m steps f empty q → ⊥)

-- d is the smallest depth of a formula that tells p and q apart
abbrev pub SmallestDepth : ℕ → List Step → ℕ → ℕ → ℕ → Type 0
SmallestDepth m steps p q = Least (λ k. (f : Formula) × (depth f ≡ k) × TellsApart m steps f p q)

-- what a pair bears: 0 where it is in every Rk, and else the first k with the pair not in Rk
unfoldable pub Mark : List Step → ℕ → ℕ → ℕ → Type 0
Mark steps p q zero = (k : ℕ) → So (Near steps k (p, q))
Mark steps p q (suc d) = Least (λ k. So (Near steps k (p, q)) → ⊥) (suc d)

-- the same as a test, where r are the rounds
unfoldable pub bears_mark : List Step → ℕ → ℕ × ℕ → ℕ → Bool
bears_mark steps r x zero = Near steps r x
bears_mark steps r x (suc d) = both (neg (Near steps (suc d) x)) (Near steps d x)
