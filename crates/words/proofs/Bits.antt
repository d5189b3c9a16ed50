-- The bits of a word: of a union, of a meet, of one state, and of a set without its lowest member.
use Prim.Native.Nat.{ℕ, zero, suc, ◌-◌, ◌/◌, ◌%◌, ◌^◌, ◌<◌}
use mathlib.Core.Path.{◌≡◌, refl, ap, sym, ◌∙◌}
use mathlib.Core.Bool.{Bool, true, false, So}
use native.Mathlib.Nat.{pow-suc, mul_comm, div-one, div-div-eq-div-mul, mul-div_cancel, mul-mod_left, mod-lt, zero-lt-suc}
use native.Mathlib.Numerals.{add-one}
use native.Mathlib.Decide.{ℕ_discrete}
use native.Mathlib.Omega.{arith}
use borrow.Author.Tests.{eq-eqb, ne_eqb}
use lib.Bits.{bit_or, bit_and, or_shr, or_mod, and_shr, and_mod, and_self, and_le_r}
use lib.Count.{count_trailing_zeros, under}
use lib.Dec.{eqb, eqb-zero-suc, eqb-suc-zero, eqb-suc-suc}
use lib.Pow.{shr_lt}
use Rattle.settle.specs.Test.{both, either, neg}
use Rattle.settle.proofs.Test.{either_l, either_r}
use Rattle.words.specs.Words.{member}
use Rattle.words.specs.Members.{Lowest}
use Rattle.words.proofs.Words.{none_member}

-- ---- one bit

first_bit : (w : ℕ) → member w 0 ≡ eqb (w % 2) 1
first_bit w = ap (λ (x : ℕ). eqb (x % 2) 1) (div-one w)

later_bit : (w s : ℕ) → member w (suc s) ≡ member (w / 2) s
later_bit w s = ap (λ (x : ℕ). eqb (x % 2) 1) (ap (λ (x : ℕ). w / x) (pow-suc 2 s ∙ mul_comm (2 ^ s) 2) ∙ sym (div-div-eq-div-mul w 2 (2 ^ s)))

-- ---- a union, a meet, and one state

or_digit : (x y : ℕ) → x < 2 → y < 2 → eqb (bit_or x y) 1 ≡ either (eqb x 1) (eqb y 1)
unfolding either
or_digit zero zero h k = refl
or_digit zero (suc zero) h k = refl
or_digit (suc zero) zero h k = refl
or_digit (suc zero) (suc zero) h k = refl
or_digit zero (suc (suc y)) h k = absurd (omega arith)
or_digit (suc zero) (suc (suc y)) h k = absurd (omega arith)
or_digit (suc (suc x)) y h k = absurd (omega arith)

pub or_member : (v w s : ℕ) → member (bit_or v w) s ≡ either (member v s) (member w s)
or_member v w s =
    ap (λ (x : ℕ). eqb (x % 2) 1) (or_shr v w s) ∙ ap (λ (x : ℕ). eqb x 1) (or_mod (v / 2 ^ s) (w / 2 ^ s) 1)
    ∙ or_digit (v / 2 ^ s % 2) (w / 2 ^ s % 2) (mod-lt (v / 2 ^ s) (zero-lt-suc 1)) (mod-lt (w / 2 ^ s) (zero-lt-suc 1))

and_digit : (x y : ℕ) → x < 2 → y < 2 → eqb (bit_and x y) 1 ≡ both (eqb x 1) (eqb y 1)
unfolding both
and_digit zero zero h k = refl
and_digit zero (suc zero) h k = refl
and_digit (suc zero) zero h k = refl
and_digit (suc zero) (suc zero) h k = refl
and_digit zero (suc (suc y)) h k = absurd (omega arith)
and_digit (suc zero) (suc (suc y)) h k = absurd (omega arith)
and_digit (suc (suc x)) y h k = absurd (omega arith)

pub and_member : (v w s : ℕ) → member (bit_and v w) s ≡ both (member v s) (member w s)
and_member v w s =
    ap (λ (x : ℕ). eqb (x % 2) 1) (and_shr v w s) ∙ ap (λ (x : ℕ). eqb x 1) (and_mod (v / 2 ^ s) (w / 2 ^ s) 1)
    ∙ and_digit (v / 2 ^ s % 2) (w / 2 ^ s % 2) (mod-lt (v / 2 ^ s) (zero-lt-suc 1)) (mod-lt (w / 2 ^ s) (zero-lt-suc 1))

pub one_member : (s x : ℕ) → member (2 ^ s) x ≡ eqb s x
one_member zero zero = refl
one_member zero (suc x) = later_bit 1 x ∙ none_member x ∙ sym (eqb-zero-suc x)
one_member (suc s) zero = first_bit (2 ^ suc s) ∙ rw (pow-suc 2 s, mul-mod_left (2 ^ s) 2) (sym (eqb-suc-zero s))
one_member (suc s) (suc x) = later_bit (2 ^ suc s) x ∙ rw (pow-suc 2 s, mul-div_cancel (2 ^ s) (zero-lt-suc 1)) (one_member s x) ∙ sym (eqb-suc-suc s x)

-- ---- the lowest member of a set, and the set without it

half_lt : {w : ℕ} (k : ℕ) → w < 2 ^ suc k → w / 2 < 2 ^ k
half_lt k h = shr_lt k 1 (rw (add-one k) h)

under_lt : (d low k : ℕ) → (d ≡ 0 → low < k) → under d low < suc k
under_lt zero low k h = omega (arith, h refl)
under_lt (suc d) low k h = zero-lt-suc k

pub lowest_lt : (k w : ℕ) → 0 < w → w < 2 ^ k → count_trailing_zeros k w < k
unfolding count_trailing_zeros
lowest_lt zero w p h = absurd (omega arith)
lowest_lt (suc k) w p h =
    under_lt (w % 2) (count_trailing_zeros k (w / 2)) k (λ e. lowest_lt k (w / 2) (omega arith) (half_lt k h))

pub rest_less : (w : ℕ) → 0 < w → bit_and w (w - 1) < w
rest_less w p = omega (arith, and_le_r w (w - 1))

even_rest : (w : ℕ) → 0 < w → w % 2 ≡ 0 → bit_and w (w - 1) / 2 ≡ bit_and (w / 2) (w / 2 - 1)
even_rest w p e = and_shr w (w - 1) 1 ∙ ap (bit_and (w / 2)) (omega arith)

odd_rest : (w : ℕ) → w % 2 ≡ 1 → bit_and w (w - 1) / 2 ≡ w / 2
odd_rest w e = and_shr w (w - 1) 1 ∙ ap (bit_and (w / 2)) (omega arith) ∙ and_self (w / 2)

-- a member is the lowest or one of the rest
pub lowest_or_rest : (k w : ℕ) → 0 < w → w < 2 ^ k → (x : ℕ) → member w x ≡ either (eqb (count_trailing_zeros k w) x) (member (bit_and w (w - 1)) x)
unfolding count_trailing_zeros either
lowest_or_rest zero w p h = absurd (omega arith)
lowest_or_rest (suc k) w p h = go (w % 2) refl (λ q. lowest_or_rest k (w / 2) q (half_lt k h))
  where
    go : (d : ℕ) → w % 2 ≡ d
        → (0 < w / 2 → (x : ℕ) → member (w / 2) x ≡ either (eqb (count_trailing_zeros k (w / 2)) x) (member (bit_and (w / 2) (w / 2 - 1)) x))
        → (x : ℕ) → member w x ≡ either (eqb (under d (count_trailing_zeros k (w / 2))) x) (member (bit_and w (w - 1)) x)
    go zero e later zero = rw (first_bit w, first_bit (bit_and w (w - 1)), and_mod w (w - 1) 1, e, eqb-suc-zero (count_trailing_zeros k (w / 2)))
    go zero e later (suc x) =
        rw (later_bit w x, later_bit (bit_and w (w - 1)) x, even_rest w p e, eqb-suc-suc (count_trailing_zeros k (w / 2)) x) (later (omega arith) x)
    go (suc d) e later zero = let o : w % 2 ≡ 1 = omega arith in rw (first_bit w, o)
    go (suc d) e later (suc x) =
        let o : w % 2 ≡ 1 = omega arith in
        rw (later_bit w x, later_bit (bit_and w (w - 1)) x, odd_rest w o, eqb-zero-suc x)

pub lowest_in : (k w : ℕ) → 0 < w → w < 2 ^ k → So (member w (count_trailing_zeros k w))
lowest_in k w p h = let low : ℕ = count_trailing_zeros k w in lowest_or_rest k w p h low ∙ either_l (member (bit_and w (w - 1)) low) (eq-eqb low low refl)

pub rest_in : (k w : ℕ) → 0 < w → w < 2 ^ k → (x : ℕ) → So (member (bit_and w (w - 1)) x) → So (member w x)
rest_in k w p h x m = lowest_or_rest k w p h x ∙ either_r (eqb (count_trailing_zeros k w) x) m

-- none is lower
lowest_first : (k w : ℕ) → 0 < w → w < 2 ^ k → (x : ℕ) → x < count_trailing_zeros k w → member w x ≡ false
unfolding count_trailing_zeros
lowest_first zero w p h x l = absurd (omega arith)
lowest_first (suc k) w p h x l = go (w % 2) refl (λ q. lowest_first k (w / 2) q (half_lt k h)) x l
  where
    go : (d : ℕ) → w % 2 ≡ d → (0 < w / 2 → (x : ℕ) → x < count_trailing_zeros k (w / 2) → member (w / 2) x ≡ false)
        → (x : ℕ) → x < under d (count_trailing_zeros k (w / 2)) → member w x ≡ false
    go zero e later zero l = rw (first_bit w, e)
    go zero e later (suc x) l = rw (later_bit w x) (later (omega arith) x (omega arith))
    go (suc d) e later x l = absurd (omega arith)

-- and the rest has it no more
lowest_out : (k w : ℕ) → 0 < w → w < 2 ^ k → member (bit_and w (w - 1)) (count_trailing_zeros k w) ≡ false
unfolding count_trailing_zeros
lowest_out zero w p h = absurd (omega arith)
lowest_out (suc k) w p h = go (w % 2) refl (λ q. lowest_out k (w / 2) q (half_lt k h))
  where
    go : (d : ℕ) → w % 2 ≡ d → (0 < w / 2 → member (bit_and (w / 2) (w / 2 - 1)) (count_trailing_zeros k (w / 2)) ≡ false)
        → member (bit_and w (w - 1)) (under d (count_trailing_zeros k (w / 2))) ≡ false
    go zero e later = rw (later_bit (bit_and w (w - 1)) (count_trailing_zeros k (w / 2)), even_rest w p e) (later (omega arith))
    go (suc d) e later = let o : w % 2 ≡ 1 = omega arith in let z : (w - 1) % 2 ≡ 0 = omega arith in rw (first_bit (bit_and w (w - 1)), and_mod w (w - 1) 1, o, z)

-- what the next of the members is, and what is left then
pub lowest : (w : ℕ) → 0 < w → w < 2 ^ 64 → Lowest w (count_trailing_zeros 64 w) (bit_and w (w - 1))
unfolding both either neg
lowest w p h =
    record {
      few = lowest_lt 64 w p h;
      in_set = lowest_in 64 w p h;
      none_below = lowest_first 64 w p h;
      others = λ s. elim (ℕ_discrete low s) [
        | yes e ↦ rw (← e, lowest_out 64 w p h, eq-eqb low low refl) (sym (and_false (member w low)))
        | no f ↦ rw (lowest_or_rest 64 w p h s, ne_eqb low s f) (sym (and_true (member (bit_and w (w - 1)) s)))
      ];
      rest_less = rest_less w p;
    }
  where
    low : ℕ
    low = count_trailing_zeros 64 w

    and_false : (b : Bool) → both b false ≡ false
    and_false true = refl
    and_false false = refl

    and_true : (b : Bool) → both b true ≡ b
    and_true true = refl
    and_true false = refl
