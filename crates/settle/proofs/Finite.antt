-- The members of the two finite sets, how many they are, and how many pairs have two different parts. Assumes nothing.
use mathlib.Core.Path.{◌≡◌, refl, sym, ap}
use mathlib.Core.Bool.{Bool, So}
use mathlib.Core.List.Memᴰ
use mathlib.Core.List.Memᴰ.{cases_cons}
use mathlib.Core.List.Memᴰ.{head as here}
use mathlib.Core.List.Memᴰ.{not-nil}
use mathlib.Core.List.Memᴰ.{tail as there}
use mathlib.Core.List.{List, [], ◌∷◌, map, Memᴰ as Mem}
use mathlib.Core.Logic.{inl, inr}
use Prim.Native.Nat.{ℕ, zero, suc, ◌+◌, ◌*◌, ◌-◌, ◌≤◌, ◌<◌}
use native.Mathlib.Nat.{not-suc-le-zero, suc-mul}
use native.Mathlib.Decide.{ℕ_discrete}
use native.Mathlib.Omega.{arith}
use lib.Dec.{eqb}
use lib.ListN.{length}
use borrow.Author.Tests.{eq-eqb, eqb-true}
use Rattle.settle.specs.Test.{neg, count}
use Rattle.settle.specs.Finite.{below, product, pairs}
use Rattle.settle.proofs.Test.{neg_i, neg_e, stable, count_append, count_map, count_miss}

-- ---- the numbers below n

pub below_i : (n x : ℕ) → x < n → Mem x (below n)
unfolding below
below_i zero x h = absurd (not-suc-le-zero h)
below_i (suc n) x h = elim (ℕ_discrete x n) [ yes e ↦ here e | no f ↦ there (below_i n x (omega arith)) ]

pub below_e : (n x : ℕ) → Mem x (below n) → x < n
unfolding below
below_e zero x m = absurd (not-nil m)
below_e (suc n) x m = elim (cases_cons m) [ inl e ↦ omega arith | inr k ↦ let h = below_e n x k in omega arith ]

pub below_length : (n : ℕ) → length (below n) ≡ n
unfolding below
below_length zero = refl
below_length (suc n) = ap suc (below_length n)

-- ---- pairs of them

pub product_i : {x y : ℕ} {xs : List ℕ} (ys : List ℕ) → Mem x xs → Mem y ys → Mem (x, y) (product xs ys)
unfolding product
product_i {x} {y} ys (here {x = z} {xs = zs} e) m = Memᴰ.append_left (product zs ys) (Memᴰ.cast (ap (λ w. (w, y)) e) (Memᴰ.map (λ y. (z, y)) m))
product_i {x} {y} ys (there {x = z} {xs = zs} n) m = Memᴰ.append_right (map (λ y. (z, y)) ys) (product_i ys n m)

pub product_e : (z : ℕ × ℕ) (xs ys : List ℕ) → Mem z (product xs ys) → Mem z.0 xs × Mem z.1 ys
unfolding product
product_e z [] ys m = absurd (not-nil m)
product_e z (x ∷ xs) ys m = elim (Memᴰ.append_cases (map (λ y. (x, y)) ys) m) [ inl n ↦ let r = Memᴰ.of_map (λ y. (x, y)) ys n in (here (ap (λ w. w.0) (sym r.2)), Memᴰ.cast (ap (λ w. w.1) (sym r.2)) r.1) | inr n ↦ let r = product_e z xs ys n in (there r.0, r.1) ]

pub pairs_i : (n p q : ℕ) → p < n → q < n → Mem (p, q) (pairs n)
unfolding pairs
pairs_i n p q h k = product_i (below n) (below_i n p h) (below_i n q k)

pub pairs_e_lem : (n : ℕ) (z : ℕ × ℕ) → Mem z (pairs n) → (z.0 < n) × (z.1 < n)
unfolding pairs
pairs_e_lem n z m = let r = product_e z (below n) (below n) m in (below_e n z.0 r.0, below_e n z.1 r.1)

-- ---- pairs of two that differ: n * n - n

unfoldable pub differ : ℕ × ℕ → Bool
differ z = neg (eqb z.0 z.1)

pub differ_n : (z : ℕ × ℕ) → (So (differ z) → ⊥) → z.0 ≡ z.1
unfolding differ
differ_n z f = eqb-true _ _ (stable _ (λ g. f (neg_i _ g)))

count_differ : (n : ℕ) (xs : List ℕ) → ((x : ℕ) → Mem x xs → x < n) → count differ (product xs (below n)) + length xs ≤ length xs * n
unfolding product count differ
count_differ n [] f = omega arith
count_differ n (x ∷ xs) f =
    let row : ℕ → ℕ × ℕ = λ y. (x, y) in
    omega (arith, count_append differ (map row (below n)) (product xs (below n)), count_map differ row (below n), count_miss (λ y. differ (row y)) (below_i n x (f x (here refl))) (λ t. neg_e _ t (eq-eqb x x refl)), below_length n, count_differ n xs (λ y m. f y (there m)), suc-mul (length xs) n)

pub differ_count : (n : ℕ) → count differ (pairs n) ≤ n * n - n
unfolding pairs
differ_count n = omega (arith, count_differ n (below n) (λ x m. below_e n x m), ap (λ k. k * n) (below_length n), below_length n)
