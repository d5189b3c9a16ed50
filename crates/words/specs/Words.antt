-- Sets of states as 64-bit words: bit s is set where s is in the set.
use Rattle.std.specs.Prelude.{ℕ, zero, suc, ◌+◌, ◌-◌, ◌*◌, ◌/◌, ◌%◌, ◌^◌, ◌≤◌, ◌<◌, ◌≡◌, Bool, true, false, eqb}
use Rattle.std.specs.Int.Bits.{bit_or}
use Rattle.settle.specs.Test.{count}
use Rattle.settle.specs.Finite.{below}

abbrev pub bit : Bool → ℕ
bit true = 1
bit false = 0

-- whether bit s of the word is set
abbrev pub member : ℕ → ℕ → Bool
member w s = eqb (w / 2 ^ s % 2) 1

-- the word of the states below n at which P holds: no bit at n or above is set
unfoldable pub word_of : ℕ → (ℕ → Bool) → ℕ
word_of zero P = 0
word_of (suc n) P = bit (P n) * 2 ^ n + word_of n P

-- ---- what the calls promise whose promise is no equation

-- r is the set with state s; no set takes a state from 64 on
abbrev pub With : ℕ → ℕ → ℕ → Type 0
With set s r = (s < 64 → r ≡ bit_or set (2 ^ s)) × (64 ≤ s → r ≡ set)

-- r is all n states, and all 64 where n is above 64
abbrev pub All : ℕ → ℕ → Type 0
All n r = (n ≤ 64 → r ≡ 2 ^ n - 1) × (64 ≤ n → r ≡ 2 ^ 64 - 1)

-- r is how many states are in the set, whichever test it is the word of
abbrev pub Size : ℕ → ℕ → Type 0
Size set r = (n : ℕ) (P : ℕ → Bool) → set ≡ word_of n P → r ≡ count P (below n)
