-- Tests, whose value is true or false, and tests of a list's members. Those that are shut show in a statement as
-- what they are; proofs/Test.antt has what makes each true and what follows where it is.
use Rattle.std.specs.Prelude.{Bool, true, false, List, [], ◌∷◌, ℕ, zero, suc}

unfoldable pub both : Bool → Bool → Bool
both true b = b
both false b = false

unfoldable pub either : Bool → Bool → Bool
either true b = true
either false b = b

unfoldable pub implies : Bool → Bool → Bool
implies true b = b
implies false b = true

unfoldable pub neg : Bool → Bool
neg true = false
neg false = true

unfoldable pub same : Bool → Bool → Bool
same true b = b
same false b = neg b

-- the first where the test holds, else the second
abbrev pub pick : {A : Type 0} → Bool → A → A → A
pick true a b = a
pick false a b = b

abbrev pub tick : Bool → ℕ → ℕ
tick true k = suc k
tick false k = k

module _ {A : Type 0} where
  -- the test holds of some member, of every member
  unfoldable pub any_of : (A → Bool) → List A → Bool
  any_of p [] = false
  any_of p (x ∷ xs) = either (p x) (any_of p xs)

  unfoldable pub all_of : (A → Bool) → List A → Bool
  all_of p [] = true
  all_of p (x ∷ xs) = both (p x) (all_of p xs)

  -- of the members that pass p, some passes q, each passes q
  unfoldable pub some : (A → Bool) → (A → Bool) → List A → Bool
  some p q = any_of (λ x. both (p x) (q x))

  unfoldable pub each : (A → Bool) → (A → Bool) → List A → Bool
  each p q = all_of (λ x. implies (p x) (q x))

  -- how many members pass
  unfoldable pub count : (A → Bool) → List A → ℕ
  count p [] = zero
  count p (x ∷ xs) = tick (p x) (count p xs)
