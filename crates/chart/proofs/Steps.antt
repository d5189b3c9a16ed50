-- The bytes and the triples from a place on, by their numbers.
use Prim.Native.Nat.{ℕ, zero, suc, ◌+◌, ◌*◌, ◌<◌}
use mathlib.Core.Path.{◌≡◌, refl, ap, sym, ◌∙◌}
use mathlib.Core.List.Memᴰ
use mathlib.Core.List.{List, [], ◌∷◌, ◌++◌, Memᴰ as Mem}
use mathlib.Core.Logic.{◌⊎◌, inl, inr}
use native.Mathlib.Numerals.{add-one}
use native.Mathlib.Omega.{arith}
use lib.ListN.{length, get_or, drop, length-drop}
use lib.Seq.{drop-cons}
use Rattle.chart.specs.Chart.{Step}
use Rattle.chart.specs.Reading.{bytes_at, step_at, steps_at}

-- ---- bytes

pub bytes_at_length : (s : List ℕ) (p k : ℕ) → length (bytes_at s p k) ≡ k
unfolding bytes_at
bytes_at_length s p zero = refl
bytes_at_length s p (suc k) = ap suc (bytes_at_length s (p + 1) k)

pub byte_member : {x : ℕ} (s : List ℕ) (p k : ℕ) → Mem x (bytes_at s p k) → (i : ℕ) × (i < k) × (x ≡ get_or s (p + i) 0)
unfolding bytes_at
byte_member s p zero m = absurd (Memᴰ.not-nil m)
byte_member {x} s p (suc k) m = go (byte_member s (p + 1) k) (Memᴰ.cases_cons m)
  where
    go : (Mem x (bytes_at s (p + 1) k) → (i : ℕ) × (i < k) × (x ≡ get_or s (p + 1 + i) 0))
        → (x ≡ get_or s p 0) ⊎ Mem x (bytes_at s (p + 1) k) → (i : ℕ) × (i < suc k) × (x ≡ get_or s (p + i) 0)
    go below (inl e) = let q : p + 0 ≡ p = omega arith in (0, omega arith, rw q e)
    go below (inr m) =
        let b = below m in
        let q : p + suc b.0 ≡ p + 1 + b.0 = omega arith in
        (suc b.0, omega (arith, b.1), rw q b.2)

pub bytes_at_get_or : (s : List ℕ) (p k i : ℕ) → i < k → get_or (bytes_at s p k) i 0 ≡ get_or s (p + i) 0
unfolding bytes_at
bytes_at_get_or s p zero i h = absurd (omega arith)
bytes_at_get_or s p (suc k) zero h = let q : p + 0 ≡ p = omega arith in rw q
bytes_at_get_or s p (suc k) (suc i) h =
    let q : p + suc i ≡ p + 1 + i = omega arith in
    rw q (bytes_at_get_or s (p + 1) k i (omega arith))

-- ---- the bytes from a place on

pub byte_then : (s : List ℕ) (p : ℕ) → p < length s → drop p s ≡ get_or s p 0 ∷ drop (p + 1) s
byte_then s p h = rw (add-one, drop-cons s p 0 h)

-- what stands at a place where the bytes from there on begin with x
pub first_byte : (s : List ℕ) (p : ℕ) {x : ℕ} {xs : List ℕ} → drop p s ≡ x ∷ xs → (p < length s) × (get_or s p 0 ≡ x) × (drop (p + 1) s ≡ xs)
first_byte s p {x} {xs} e =
    let here : p < length s = omega (arith, length-drop p s, ap length e) in
    let both : get_or s p 0 ∷ drop (p + 1) s ≡ x ∷ xs = sym (byte_then s p here) ∙ e in
    (here, cc, cc)

-- ---- triples

pub steps_at_length : (s : List ℕ) (p t : ℕ) → length (steps_at s p t) ≡ t
unfolding steps_at
steps_at_length s p zero = refl
steps_at_length s p (suc k) = ap suc (steps_at_length s (p + 3) k)

pub step_member : {u : Step} (s : List ℕ) (p t : ℕ) → Mem u (steps_at s p t) → (i : ℕ) × (i < t) × (u ≡ step_at s (p + 3 * i))
unfolding steps_at
step_member s p zero m = absurd (Memᴰ.not-nil m)
step_member {u} s p (suc k) m = go (step_member s (p + 3) k) (Memᴰ.cases_cons m)
  where
    go : (Mem u (steps_at s (p + 3) k) → (i : ℕ) × (i < k) × (u ≡ step_at s (p + 3 + 3 * i)))
        → (u ≡ step_at s p) ⊎ Mem u (steps_at s (p + 3) k) → (i : ℕ) × (i < suc k) × (u ≡ step_at s (p + 3 * i))
    go below (inl e) = let q : p + 3 * 0 ≡ p = omega arith in (0, omega arith, rw q e)
    go below (inr m) =
        let b = below m in
        let q : p + 3 * suc b.0 ≡ p + 3 + 3 * b.0 = omega arith in
        (suc b.0, omega (arith, b.1), rw q b.2)

pub member_step : (s : List ℕ) (p t i : ℕ) → i < t → Mem (step_at s (p + 3 * i)) (steps_at s p t)
unfolding steps_at
member_step s p zero i h = absurd (omega arith)
member_step s p (suc k) zero h = let q : p + 3 * 0 ≡ p = omega arith in Mem.head (ap (step_at s) q)
member_step s p (suc k) (suc i) h =
    let q : p + 3 * suc i ≡ p + 3 + 3 * i = omega arith in
    rw q (Mem.tail (member_step s (p + 3) k i (omega arith)))

pub steps_at_snoc : (s : List ℕ) (p i : ℕ) → steps_at s p (i + 1) ≡ steps_at s p i ++ (step_at s (p + 3 * i) ∷ [])
unfolding steps_at
steps_at_snoc s p zero = let q : p + 3 * 0 ≡ p = omega arith in rw q
steps_at_snoc s p (suc k) =
    let q : p + 3 * suc k ≡ p + 3 + 3 * k = omega arith in
    let e : suc k + 1 ≡ suc (k + 1) = omega arith in
    rw (e, q) (ap (λ (l : List Step). step_at s p ∷ l) (steps_at_snoc s (p + 3) k))

pub steps_at_get_or : (s : List ℕ) (p t i : ℕ) (u : Step) → i < t → get_or (steps_at s p t) i u ≡ step_at s (p + 3 * i)
unfolding steps_at
steps_at_get_or s p zero i u h = absurd (omega arith)
steps_at_get_or s p (suc k) zero u h = let q : p + 3 * 0 ≡ p = omega arith in rw q
steps_at_get_or s p (suc k) (suc i) u h =
    let q : p + 3 * suc i ≡ p + 3 + 3 * i = omega arith in
    rw q (steps_at_get_or s (p + 3) k i u (omega arith))
