-- Operators on the subsets of a finite set, their solutions and their rounds. The set is a list of its elements, of any type; a subset is a
-- test; what is said is said of the list's members.
use Rattle.std.specs.Prelude.{◌≡◌, Bool, true, false, ℕ, zero, suc, ◌<◌}
use Rattle.std.proofs.Math.Bool.{So}
use mathlib.Core.List.{List, Memᴰ as Mem}
use Rattle.settle.specs.Test.{both, neg, same, all_of}
use Rattle.settle.specs.Finite.{below}

-- k is the least number of which P holds
abbrev pub Least : (ℕ → Type 0) → ℕ → Type 0
Least P k = P k × ((j : ℕ) → j < k → P j → ⊥)

module _ {A : Type 0} where
  abbrev pub Inside : List A → (A → Bool) → (A → Bool) → Type 0
  Inside xs S T = (x : A) → Mem x xs → So (S x) → So (T x)

  abbrev pub Same : List A → (A → Bool) → (A → Bool) → Type 0
  Same xs S T = (x : A) → Mem x xs → S x ≡ T x

  abbrev pub Monotone : List A → ((A → Bool) → A → Bool) → Type 0
  Monotone xs F = (S T : A → Bool) → Inside xs S T → Inside xs (F S) (F T)

  unfoldable pub empty : A → Bool
  empty x = false

  unfoldable pub full : A → Bool
  full x = true

  -- k applications of F, from S
  unfoldable pub chain : ((A → Bool) → A → Bool) → (A → Bool) → ℕ → A → Bool
  chain F S zero = S
  chain F S (suc k) = F (chain F S k)

  -- x is in the intersection of all T with F(T) inside T
  abbrev pub LeastSolution : List A → ((A → Bool) → A → Bool) → A → Type 0
  LeastSolution xs F x = (T : A → Bool) → Inside xs (F T) T → So (T x)

  -- x is in the union of all T inside F(T)
  abbrev pub GreatestSolution : List A → ((A → Bool) → A → Bool) → A → Type 0
  GreatestSolution xs F x = (T : A → Bool) × Inside xs T (F T) × So (T x)

  -- k applications equal k + 1
  abbrev pub Settled : List A → (ℕ → A → Bool) → ℕ → Type 0
  Settled xs C k = Same xs (C k) (C (suc k))

  -- the rounds: the least such k
  abbrev pub Rounds : List A → (ℕ → A → Bool) → ℕ → Type 0
  Rounds xs C = Least (Settled xs C)

  -- the same two as tests, which compute on a chart that is written out
  unfoldable pub settled : List A → (ℕ → A → Bool) → ℕ → Bool
  settled xs C k = all_of (λ x. same (C k x) (C (suc k) x)) xs

  unfoldable pub stops : List A → (ℕ → A → Bool) → ℕ → Bool
  stops xs C k = both (settled xs C k) (all_of (λ j. neg (settled xs C j)) (below k))
