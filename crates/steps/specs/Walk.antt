-- A step of a set by one row of the table.
use Rattle.std.specs.Prelude.{ℕ, ◌+◌, Bool, List, get_or}
use Rattle.settle.specs.Test.{some}
use Rattle.settle.specs.Finite.{below}
use Rattle.words.specs.Words.{member}

-- s has a step to some member of the set, a word of 64 bits, by the row that begins at `base`
unfoldable pub leads : List ℕ → ℕ → ℕ → ℕ → Bool
leads into base set s = some (member set) (λ u. member (get_or into (base + u) 0) s) (below 64)
