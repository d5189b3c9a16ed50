-- A chart without triples: every relation is a simulation of it, and no round is needed. Assumes nothing.
use Prim.Native.Nat.{ℕ}
use mathlib.Core.Path.{◌≡◌}
use mathlib.Core.Bool.{Bool}
use mathlib.Core.List.Memᴰ.{not-nil}
use mathlib.Core.List.{List, []}
use native.Mathlib.Omega.{arith}
use Rattle.settle.specs.Chain.{Settled, Rounds}
use Rattle.settle.proofs.Chain.{rounds_unique}
use Rattle.nearness.specs.Bisimulation.{IsSimulation}

pub any_simulation : (R : ℕ → ℕ → Type 0) → IsSimulation [] R
any_simulation R = record { forth = λ p q h t m. absurd (not-nil m) }

pub no_rounds : {A : Type 0} (xs : List A) (C : ℕ → A → Bool) (k : ℕ) → Settled xs C 0 → Rounds xs C k → k ≡ 0
no_rounds xs C k s r = rounds_unique xs C k 0 r (s, λ j l h. omega arith)
