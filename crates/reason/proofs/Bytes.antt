-- The lines of a list's bytes, and the bytes of its lines: each gives the other back.
use Prim.Native.Nat.{ℕ, zero, suc, ◌+◌, ◌*◌, ◌≤◌, ◌<◌}
use mathlib.Core.Path.{◌≡◌, refl, ap, ap₂, ◌∙◌}
use mathlib.Core.List.{List, [], ◌∷◌, ◌++◌}
use native.Mathlib.Omega.{arith}
use lib.ListN.{length, get_or, take, drop, length-append, get_or-append}
use lib.Seq.{get_or-append-add, take-add, take_all}
use Rattle.chart.proofs.Steps.{byte_then}
use Rattle.reason.specs.Line.{Line, line_bytes, list_bytes, line_at, lines_in}

pub bytes_length : (lines : List Line) → length (list_bytes lines) ≡ 5 * length lines
unfolding list_bytes
bytes_length [] = refl
bytes_length (l ∷ earlier) = omega (arith, length-append (list_bytes earlier) (line_bytes l), bytes_length earlier)

pub lines_length : (s : List ℕ) (k : ℕ) → length (lines_in s k) ≡ k
unfolding lines_in
lines_length s zero = refl
lines_length s (suc k) = ap suc (lines_length s k)

-- a line is that of its five bytes
same_line : (s t : List ℕ) (p : ℕ) → ((i : ℕ) → i < 5 → get_or s (p + i) 0 ≡ get_or t (p + i) 0) → line_at s p ≡ line_at t p
same_line s t p f =
    let z : p + 0 ≡ p = omega arith in
    let a : get_or s p 0 ≡ get_or t p 0 = rw z at (f 0 (omega arith)) in
    rw (a, f 1 (omega arith), f 2 (omega arith), f 3 (omega arith), f 4 (omega arith))

-- the first k lines are those of the first 5 * k bytes
pub lines_same : (s t : List ℕ) (k : ℕ) → ((i : ℕ) → i < 5 * k → get_or s i 0 ≡ get_or t i 0) → lines_in s k ≡ lines_in t k
unfolding lines_in
lines_same s t zero f = refl
lines_same s t (suc k) f = ap₂ (λ (l : Line) (rest : List Line). l ∷ rest) (same_line s t (5 * k) (λ i h. f (5 * k + i) (omega arith))) (lines_same s t k (λ i h. f i (omega arith)))

-- the line whose bytes stand after others
line_after : (s : List ℕ) (l : Line) → line_at (s ++ line_bytes l) (length s) ≡ l
line_after s l =
    let z : length s + 0 ≡ length s = omega arith in
    let a : get_or (s ++ line_bytes l) (length s) 0 ≡ l.p = rw z at (get_or-append-add s (line_bytes l) 0 0) in
    rw (a, get_or-append-add s (line_bytes l) 1 0, get_or-append-add s (line_bytes l) 2 0, get_or-append-add s (line_bytes l) 3 0, get_or-append-add s (line_bytes l) 4 0)

pub lines_of_bytes : (lines : List Line) → lines_in (list_bytes lines) (length lines) ≡ lines
unfolding lines_in list_bytes
lines_of_bytes [] = refl
lines_of_bytes (l ∷ earlier) =
    let e : length (list_bytes earlier) ≡ 5 * length earlier = bytes_length earlier in
    ap₂ (λ (k : Line) (rest : List Line). k ∷ rest)
    (rw (← e) (line_after (list_bytes earlier) l))
    (lines_same (list_bytes earlier ++ line_bytes l) (list_bytes earlier) (length earlier) (λ i h. get_or-append (list_bytes earlier) (line_bytes l) 0 i (omega arith)) ∙ lines_of_bytes earlier)

-- five bytes are those of the line at their place
five_bytes : (s : List ℕ) (p : ℕ) → p + 5 ≤ length s → take 5 (drop p s) ≡ line_bytes (line_at s p)
five_bytes s p h =
    let e₂ : p + 1 + 1 ≡ p + 2 = omega arith in
    let e₃ : p + 2 + 1 ≡ p + 3 = omega arith in
    let e₄ : p + 3 + 1 ≡ p + 4 = omega arith in
    rw (byte_then s p (omega arith), byte_then s (p + 1) (omega arith), e₂, byte_then s (p + 2) (omega arith), e₃, byte_then s (p + 3) (omega arith), e₄, byte_then s (p + 4) (omega arith))

pub first_bytes : (s : List ℕ) (k : ℕ) → 5 * k ≤ length s → list_bytes (lines_in s k) ≡ take (5 * k) s
unfolding lines_in list_bytes
first_bytes s zero h = refl
first_bytes s (suc k) h =
    let e : 5 * suc k ≡ 5 * k + 5 = omega arith in
    rw (e, take-add (5 * k) 5 s, five_bytes s (5 * k) (omega arith), first_bytes s k (omega arith))

pub bytes_of_lines : (s : List ℕ) (k : ℕ) → length s ≡ 5 * k → list_bytes (lines_in s k) ≡ s
bytes_of_lines s k e = first_bytes s k (omega arith) ∙ take_all (5 * k) s (omega arith)
