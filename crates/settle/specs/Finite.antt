-- Two finite sets, as lists of their elements: the numbers below n, and the pairs of them.
use Rattle.std.specs.Prelude.{List, [], ◌∷◌, ◌++◌, map, ℕ, zero, suc}

unfoldable pub below : ℕ → List ℕ
below zero = []
below (suc n) = n ∷ below n

unfoldable pub product : List ℕ → List ℕ → List (ℕ × ℕ)
product [] ys = []
product (x ∷ xs) ys = map (λ y. (x, y)) ys ++ product xs ys

unfoldable pub pairs : ℕ → List (ℕ × ℕ)
pairs n = product (below n) (below n)
