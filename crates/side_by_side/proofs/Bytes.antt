-- The bytes from a place on: one more, and as a part of the whole. Assumes nothing.
use Prim.Native.Nat.{ℕ, zero, suc, ◌+◌, ◌≤◌}
use mathlib.Core.Path.{◌≡◌, refl, ap}
use mathlib.Core.List.{List, [], ◌∷◌, ◌++◌}
use native.Mathlib.Omega.{arith}
use lib.ListN.{length, get_or, take, drop}
use Rattle.chart.specs.Reading.{bytes_at}
use Rattle.chart.proofs.Steps.{byte_then}

pub bytes_at_snoc : (s : List ℕ) (p k : ℕ) → bytes_at s p (k + 1) ≡ bytes_at s p k ++ (get_or s (p + k) 0 ∷ [])
unfolding bytes_at
bytes_at_snoc s p zero = let q : p + 0 ≡ p = omega arith in rw q
bytes_at_snoc s p (suc k) =
    let q : p + suc k ≡ p + 1 + k = omega arith in
    let e : suc k + 1 ≡ suc (k + 1) = omega arith in
    rw (e, q) (ap (λ (l : List ℕ). get_or s p 0 ∷ l) (bytes_at_snoc s (p + 1) k))

pub part_bytes : (s : List ℕ) (p k : ℕ) → p + k ≤ length s → take k (drop p s) ≡ bytes_at s p k
unfolding bytes_at
part_bytes s p zero h = refl
part_bytes s p (suc k) h = rw (byte_then s p (omega arith)) (ap (λ (l : List ℕ). get_or s p 0 ∷ l) (part_bytes s (p + 1) k (omega arith)))
