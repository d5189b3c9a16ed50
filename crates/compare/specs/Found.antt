-- What is read off the matrix of marks: the rows without a 0 in the columns of the other chart.
use Rattle.std.specs.Prelude.{ℕ, ◌+◌, ◌*◌, Bool, List, get_or, eqb}
use Rattle.settle.specs.Test.{neg, any_of}
use Rattle.settle.specs.Finite.{below}
use Rattle.relation.specs.Promise.{byte_at}
use Rattle.beside.specs.Chosen.{chosen}
use Rattle.compare.specs.Comparison.{listed}

-- of the `count` cells from `from` on, one is 0
abbrev pub some_zero : List ℕ → ℕ → ℕ → Bool
some_zero matrix from count = any_of (λ q. eqb (get_or matrix (from + q) 0) 0) (below count)

-- one chart has `own` states from `low` on and the other `count` from `other` on, of n in all: the own states, in their own numbers, whose row
-- has no 0 in the other's columns
abbrev pub partnerless : List ℕ → ℕ → ℕ → ℕ → ℕ → ℕ → List ℕ
partnerless matrix n low own other count = chosen (λ p. neg (some_zero matrix ((low + p) * n + other) count)) own

-- the list that a matrix of the two charts side by side, of so many states each, spells
abbrev pub found : List ℕ → ℕ → ℕ → List ℕ
found matrix first second =
    let n = first + second in
    listed (byte_at n matrix 0 first) (partnerless matrix n 0 first first second) (partnerless matrix n first second 0 first)
