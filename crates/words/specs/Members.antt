-- The members of a set, one after the other.
use Rattle.std.specs.Prelude.{ℕ, ◌<◌, ◌≡◌, false, eqb, Option, MatchOption}
use Rattle.std.proofs.Math.Bool.{So}
use Rattle.settle.specs.Test.{both, neg}
use Rattle.words.specs.Words.{member}

-- q is the lowest member of a set, and rest has the others
pub record Lowest (set q rest : ℕ) : Type 0 where
  pub few : q < 64
  pub in_set : So (member set q)
  pub none_below : (s : ℕ) → s < q → member set s ≡ false
  pub others : (s : ℕ) → member rest s ≡ both (member set s) (neg (eqb q s))
  pub rest_less : rest < set

-- the lowest member comes where the set has one, and the others are left
abbrev pub Next : ℕ → Option ℕ → ℕ → Type 0
Next set r rest = MatchOption r ((set ≡ 0) × (rest ≡ 0)) (λ q. Lowest set q rest)
