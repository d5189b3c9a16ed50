-- The numbers below k that pass a test, rising.
use Rattle.std.specs.Prelude.{ℕ, zero, suc, Bool, List, [], ◌∷◌, ◌++◌}
use Rattle.settle.specs.Test.{pick}

unfoldable pub chosen : (ℕ → Bool) → ℕ → List ℕ
chosen passes zero = []
chosen passes (suc k) = chosen passes k ++ pick (passes k) (k ∷ []) []
