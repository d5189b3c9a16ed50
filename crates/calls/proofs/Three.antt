-- What stands in three lent numbers after an answer. Assumes nothing.
use mathlib.Core.Path.{◌≡◌, refl}
use mathlib.Core.List.{List, [], ◌∷◌}
use Prim.Native.Nat.{ℕ}
use native.Mathlib.Omega.{arith}
use lib.ListN.{length}
use Rattle.solve.specs.declared.Solved.{Solved}
use Rattle.calls.specs.Shown.{solved_in}

pub three_numbers : (old : List ℕ) → length old ≡ 3 → (a : Solved) → solved_in old a ≡ a.word ∷ a.count ∷ a.rounds ∷ []
three_numbers (x ∷ y ∷ z ∷ []) e a = refl
three_numbers [] e a = absurd (omega arith)
three_numbers (x ∷ []) e a = absurd (omega arith)
three_numbers (x ∷ y ∷ []) e a = absurd (omega arith)
three_numbers (x ∷ y ∷ z ∷ u ∷ more) e a = absurd (omega arith)
