-- The digits of a number, step by step, and texts in a buffer.
use Prim.Native.Nat.{ℕ, zero, suc, ◌+◌, ◌*◌, ◌/◌, ◌%◌, ◌^◌, ◌<◌, ◌≤◌}
use Rattle.std.proofs.Common.{lit≤}
use mathlib.Core.Path.{◌≡◌, sym, ap, ◌∙◌}
use mathlib.Core.List.{List, [], ◌∷◌, ◌++◌, append_assoc}
use native.Mathlib.Omega.{arith}
use native.Mathlib.Numerals.{add-one, unary_clauses}
use native.Mathlib.Decide.{dec_lt}
use lib.ListN.{length, get_or, take, drop, set, length-append, length-drop, length-set}
use lib.Seq.{length-take-le, take_at, drop_at, drop-drop, append_snoc, set_split, set-append_left, take-set-lt, drop-set-lt, paste, paste-zero, paste-suc, take-length}
use lib.Dec.{leb}
use mathlib.Core.Bool.{true}
use borrow.Author.Tests.{lt-ltb, le-ltb, le-leb}
use Rattle.text.specs.Text.{digits, decimal, line, placed, buffer_after, place_after, PutPromise}

-- what holds of the numbers below 10, and of x where it holds of its tenth, holds of every number
module _ (P : ℕ → Type 0) (small : (x : ℕ) → x < 10 → P x) (step : (x : ℕ) → 10 ≤ x → P (x / 10) → P x) where
  by_tenths_below : (k x : ℕ) → x < k → P x
  by_tenths_below zero x h = absurd (omega arith)
  by_tenths_below (suc k) x h = go (by_tenths_below k (x / 10)) (dec_lt x 10)
    where
      go : (x / 10 < k → P (x / 10)) → Dec (x < 10) → P x
      go tenth (yes s) = small x s
      go tenth (no s) = step x (omega arith) (tenth (omega arith))

  pub by_tenths : (x : ℕ) → P x
  by_tenths x = by_tenths_below (suc x) x (omega arith)

-- ---- digits

digits_small : (most x : ℕ) → x < 10 → digits (suc most) x ≡ (48 + x) ∷ []
unfolding digits
digits_small most x h = rw (lt-ltb _ _ h)

digits_step : (most x : ℕ) → 10 ≤ x → digits (suc most) x ≡ digits most (x / 10) ++ ((48 + x % 10) ∷ [])
unfolding digits
digits_step most x h = rw (le-ltb _ _ h)

-- any bound above x gives the same digits
digits_enough : (j k x : ℕ) → x < j → x < k → digits j x ≡ digits k x
digits_enough zero k x hj hk = absurd (omega arith)
digits_enough (suc j) zero x hj hk = absurd (omega arith)
digits_enough (suc j) (suc k) x hj hk = go (λ u v. digits_enough j k (x / 10) u v) (dec_lt x 10)
  where
    go : (x / 10 < j → x / 10 < k → digits j (x / 10) ≡ digits k (x / 10)) → Dec (x < 10) → digits (suc j) x ≡ digits (suc k) x
    go same (yes h) = digits_small j x h ∙ sym (digits_small k x h)
    go same (no h) =
        let big : 10 ≤ x = omega arith in
        digits_step j x big ∙ ap (λ (l : List ℕ). l ++ ((48 + x % 10) ∷ [])) (same (omega arith) (omega arith)) ∙ sym (digits_step k x big)

pub decimal_small : (x : ℕ) → x < 10 → decimal x ≡ (48 + x) ∷ []
unfolding decimal
decimal_small x h = digits_small x x h

pub decimal_step : (x : ℕ) → 10 ≤ x → decimal x ≡ decimal (x / 10) ++ ((48 + x % 10) ∷ [])
unfolding decimal
decimal_step x h =
    digits_step x x h ∙ ap (λ (l : List ℕ). l ++ ((48 + x % 10) ∷ [])) (digits_enough x (suc (x / 10)) (x / 10) (omega arith) (omega arith))

pub width_small : (x : ℕ) → x < 10 → length (decimal x) ≡ 1
width_small x h = ap length (decimal_small x h)

pub width_step : (x : ℕ) → 10 ≤ x → length (decimal x) ≡ length (decimal (x / 10)) + 1
width_step x h = ap length (decimal_step x h) ∙ length-append (decimal (x / 10)) ((48 + x % 10) ∷ [])

pub width_some : (x : ℕ) → 1 ≤ length (decimal x)
width_some x = go (dec_lt x 10)
  where
    go : Dec (x < 10) → 1 ≤ length (decimal x)
    go (yes h) = omega (arith, width_small x h)
    go (no h) = let big : 10 ≤ x = omega arith in omega (arith, width_step x big)

pub width_most : (x : ℕ) → length (decimal x) ≤ 1 + x / 10
width_most = by_tenths (λ x. length (decimal x) ≤ 1 + x / 10) (λ x h. omega (arith, width_small x h)) (λ x h less. omega (arith, width_step x h, less))

-- the digits by the power of ten that x reaches
pub width_power : (k x : ℕ) → 10 ^ k ≤ x → x < 10 * 10 ^ k → length (decimal x) ≡ k + 1
width_power zero x h l = width_small x (omega arith)
width_power (suc k) x h l =
    let low : 10 ^ k * 10 ≤ x = simp unary_clauses at h in
    let high : x < 10 * (10 ^ k * 10) = simp unary_clauses at l in
    let less = width_power k (x / 10) (omega arith) (omega arith) in
    omega (arith, less, width_step x (omega (arith, pow_some k)))
  where
    pow_some : (k : ℕ) → 1 ≤ 10 ^ k
    pow_some zero = lit≤ tt
    pow_some (suc k) = simp unary_clauses (omega (arith, pow_some k))

-- ---- texts in a buffer

module _ (b : List ℕ) (at : ℕ) (s : List ℕ) (room : at + length s ≤ length b) where
  -- what stands before the end of the text
  front_length : length (take at b ++ s) ≡ at + length s
  front_length = length-append (take at b) s ∙ ap (λ (k : ℕ). k + length s) (length-take-le at b (omega arith))

  pub length_placed : length (placed b at s) ≡ length b
  unfolding placed
  length_placed =
      let e : length (take at b ++ s ++ drop (at + length s) b) ≡ length (take at b ++ s) + length (drop (at + length s) b) = length-append (take at b ++ s) (drop (at + length s) b) in
      omega (arith, front_length, length-drop (at + length s) b)

  -- a text after a text is one text
  pub placed_append : (t : List ℕ) → placed (placed b at s) (at + length s) t ≡ placed b at (s ++ t)
  unfolding placed
  placed_append t =
      let n : ℕ = at + length s in
      let front : List ℕ = take at b ++ s in
      let end : n + length t ≡ at + length (s ++ t) = omega (arith, length-append s t) in
      ap (λ (l : List ℕ). l ++ t ++ drop (n + length t) (front ++ drop n b)) (take_at front (drop n b) n front_length)
      ∙ ap (λ (l : List ℕ). front ++ t ++ l)
      (sym (drop-drop (length t) n (front ++ drop n b)) ∙ ap (drop (length t)) (drop_at front (drop n b) n front_length) ∙ drop-drop (length t) n b)
      ∙ ap (λ (l : List ℕ). l ++ drop (n + length t) b) (append_assoc (take at b) s t)
      ∙ ap (λ (k : ℕ). take at b ++ (s ++ t) ++ drop k b) end

-- a text that is stored byte by byte: none, one more, and all
pub bytes_none : (b : List ℕ) (at : ℕ) (t : List ℕ) → b ≡ paste b at t 0
bytes_none b at t = paste-zero b at t

pub bytes_more : (b b' : List ℕ) (at i : ℕ) (t : List ℕ) → b' ≡ paste b at t i → at + i < length b → i < length t → set b' (at + i) (get_or t i 0) ≡ paste b at t (i + 1)
bytes_more b b' at i t e room h = rw (e, add-one) (paste-suc b at t i 0 room h)

pub bytes_all : (b b' : List ℕ) (at i : ℕ) (t : List ℕ) → b' ≡ paste b at t i → i ≡ length t → b' ≡ placed b at t
unfolding placed
bytes_all b b' at i t e all = simp take-length at (rw all at e)

pub placed_none : (b : List ℕ) (at : ℕ) → b ≡ placed b at []
unfolding placed
placed_none b at = paste-zero b at []

pub placed_one : (b : List ℕ) (at x : ℕ) → at < length b → set b at x ≡ placed b at (x ∷ [])
unfolding placed
placed_one b at x h = set_split b at x h ∙ sym (append_snoc (take at b) x (drop (suc at) b)) ∙ ap (λ (k : ℕ). take at b ++ (x ∷ []) ++ drop k b) (sym (add-one at))

pub length_stored : (b : List ℕ) (at x : ℕ) → length (set b at x) ≡ length b
length_stored b at x = length-set b at x

-- a byte that is stored before a text
placed_later : (b : List ℕ) (at : ℕ) (s : List ℕ) (i x : ℕ) → i < at → at ≤ length b → set (placed b at s) i x ≡ placed (set b i x) at s
unfolding placed
placed_later b at s i x h room =
    let front : length (take at b) ≡ at = length-take-le at b room in
    let rest : List ℕ = drop (at + length s) b in
    set-append_left (take at b ++ s) rest i x (omega (arith, length-append (take at b) s))
    ∙ ap (λ (l : List ℕ). l ++ rest) (set-append_left (take at b) s i x (omega arith))
    ∙ rw (take-set-lt at b i x h, drop-set-lt (at + length s) b i x (omega arith))

-- a text and the byte that is stored just before it
pub placed_before : (b : List ℕ) (at : ℕ) (s : List ℕ) (x : ℕ) → at + 1 + length s ≤ length b → set (placed b (at + 1) s) at x ≡ placed b at (x ∷ s)
placed_before b at s x h =
    placed_later b (at + 1) s at x (omega arith) (omega arith)
    ∙ ap (λ (l : List ℕ). placed l (at + 1) s) (placed_one b at x (omega arith))
    ∙ placed_append b at (x ∷ []) (omega arith) s

-- the text was put at the place, r is the place after and b' the buffer then
abbrev pub Put : List ℕ → ℕ → List ℕ → ℕ → List ℕ → Type 0
Put b at t r b' = (r ≡ at + length t) × (b' ≡ placed b at t)

-- what the promise says
module _ (b : List ℕ) (at : ℕ) (t : List ℕ) where
  -- what its caller learns, where the text fits
  pub put_fits : {r : ℕ} {b' : List ℕ} → at + length t ≤ length b → PutPromise b at t r b' → Put b at t r b'
  unfolding place_after buffer_after
  put_fits h p = let e : leb (at + length t) (length b) ≡ true = le-leb _ _ h in (rw e at p.place, rw e at p.bytes)

  -- any two places, and any two buffers, that the promise allows agree
  pub put_determined : {r r' : ℕ} {b' b'' : List ℕ} → PutPromise b at t r b' → PutPromise b at t r' b'' → (r ≡ r') × (b' ≡ b'')
  put_determined p q = (p.place ∙ sym q.place, p.bytes ∙ sym q.bytes)

-- ---- a line of three numbers

abbrev followed : ℕ → ℕ → List ℕ
followed x byte = decimal x ++ (byte ∷ [])

pub length_followed : (x byte : ℕ) → length (decimal x ++ (byte ∷ [])) ≡ length (decimal x) + 1
length_followed x byte = length-append (decimal x) (byte ∷ [])

pub line_three : (x y z : ℕ) → line (x ∷ y ∷ z ∷ []) ≡ (followed x 32 ++ followed y 32) ++ followed z 10
unfolding line
line_three x y z = simp append_assoc

pub length_line : (x y z : ℕ) → length (line (x ∷ y ∷ z ∷ [])) ≡ length (decimal x) + length (decimal y) + length (decimal z) + 3
length_line x y z =
    ap length (line_three x y z)
    ∙ simp length-append (omega arith)

pub placed_line : (b : List ℕ) (at x y z : ℕ) → at + length (line (x ∷ y ∷ z ∷ [])) ≤ length b
    → placed (placed (placed b at (decimal x ++ (32 ∷ []))) (at + length (decimal x ++ (32 ∷ []))) (decimal y ++ (32 ∷ []))) (at + length (decimal x ++ (32 ∷ [])) + length (decimal y ++ (32 ∷ []))) (decimal z ++ (10 ∷ []))
    ≡ placed b at (line (x ∷ y ∷ z ∷ []))
placed_line b at x y z room =
    let both : length (followed x 32 ++ followed y 32) ≡ length (followed x 32) + length (followed y 32) = length-append (followed x 32) (followed y 32) in
    let first : at + length (followed x 32) ≤ length b = omega (arith, length_line x y z, length_followed x 32) in
    let second : at + length (followed x 32 ++ followed y 32) ≤ length b = omega (arith, length_line x y z, length_followed x 32, length_followed y 32) in
    let end : at + length (followed x 32) + length (followed y 32) ≡ at + length (followed x 32 ++ followed y 32) = omega arith in
    rw (placed_append b at (followed x 32) first (followed y 32), end, placed_append b at (followed x 32 ++ followed y 32) second (followed z 10), ← line_three x y z)
