-- Laws of words: each operation on words is the operation on the sets that they stand for.
use Prim.Native.Nat.{ℕ, zero, suc, ◌+◌, ◌-◌, ◌*◌, ◌/◌, ◌%◌, ◌^◌, ◌<◌, ◌≤◌}
use mathlib.Core.Path.{◌≡◌, refl, ap, ap₂, sym, ◌∙◌}
use mathlib.Core.Bool.{Bool, true, false}
use native.Mathlib.Omega.{arith}
use native.Mathlib.Nat.{pow-suc, one-mul, mod-lt, add_comm, zero-add}
use native.Mathlib.Numerals.{add-one}
use native.Mathlib.Decide.{dec_lt}
use lib.Bits.{bit_or, bit_and, or_block, and_block}
use lib.Count.{ones, ones_cat}
use lib.Pow.{low, field, mod-mod-pow, pow_pos, high, shr_lt, shl_exact, split, pow_mono}
use lib.Dec.{eqb, ltb, lit<}
use borrow.Author.Tests.{eq-eqb, ne_eqb, le-ltb}
use Rattle.settle.specs.Test.{both, either, neg, tick, count}
use Rattle.settle.specs.Finite.{below}
use Rattle.words.specs.Words.{bit, word_of, member}

-- ---- its size, and words of tests that agree

one_more : (b : Bool) (r k : ℕ) → r < k → bit b * k + r < k * 2
one_more true r k h = omega arith
one_more false r k h = omega arith

-- no bit at n or above
pub word_lt : (n : ℕ) (P : ℕ → Bool) → word_of n P < 2 ^ n
unfolding word_of
word_lt zero P = omega arith
word_lt (suc n) P = rw (pow-suc 2 n) (one_more (P n) (word_of n P) (2 ^ n) (word_lt n P))

pub word_small : (n w : ℕ) (P : ℕ → Bool) → w ≡ word_of n P → w < 2 ^ n
word_small n w P e = rw e (word_lt n P)

pub word_cong : (n : ℕ) (P Q : ℕ → Bool) → ((x : ℕ) → x < n → P x ≡ Q x) → word_of n P ≡ word_of n Q
unfolding word_of
word_cong zero P Q h = refl
word_cong (suc n) P Q h = ap₂ (λ (b : Bool) (w : ℕ). bit b * 2 ^ n + w) (h n (omega arith)) (word_cong n P Q (λ x l. h x (omega arith)))

-- ---- union and meet, none, one more, all others

bit_or_lem : (a b : Bool) → bit_or (bit a) (bit b) ≡ bit (either a b)
unfolding either
bit_or_lem true true = refl
bit_or_lem true false = refl
bit_or_lem false true = refl
bit_or_lem false false = refl

bit_and_lem : (a b : Bool) → bit_and (bit a) (bit b) ≡ bit (both a b)
unfolding both
bit_and_lem true true = refl
bit_and_lem true false = refl
bit_and_lem false true = refl
bit_and_lem false false = refl

pub or_word : (n : ℕ) (P Q : ℕ → Bool) → bit_or (word_of n P) (word_of n Q) ≡ word_of n (λ x. either (P x) (Q x))
unfolding word_of
or_word zero P Q = refl
or_word (suc n) P Q =
    or_block n (bit (P n)) (bit (Q n)) (word_of n P) (word_of n Q) (word_lt n P) (word_lt n Q)
    ∙ ap₂ (λ (x y : ℕ). x * 2 ^ n + y) (bit_or_lem (P n) (Q n)) (or_word n P Q)

pub and_word : (n : ℕ) (P Q : ℕ → Bool) → bit_and (word_of n P) (word_of n Q) ≡ word_of n (λ x. both (P x) (Q x))
unfolding word_of
and_word zero P Q = refl
and_word (suc n) P Q =
    and_block n (bit (P n)) (bit (Q n)) (word_of n P) (word_of n Q) (word_lt n P) (word_lt n Q)
    ∙ ap₂ (λ (x y : ℕ). x * 2 ^ n + y) (bit_and_lem (P n) (Q n)) (and_word n P Q)

pub word_none : (n : ℕ) → word_of n (λ x. false) ≡ 0
unfolding word_of
word_none zero = refl
word_none (suc n) = rw (word_none n) (omega arith)

-- the word of one state
pow_word : (n s : ℕ) → s < n → 2 ^ s ≡ word_of n (λ x. eqb s x)
unfolding word_of
pow_word zero s h = absurd (omega arith)
pow_word (suc n) s h = go (pow_word n s) (dec_lt s n)
  where
    go : (s < n → 2 ^ s ≡ word_of n (λ x. eqb s x)) → Dec (s < n) → 2 ^ s ≡ bit (eqb s n) * 2 ^ n + word_of n (λ x. eqb s x)
    go ih (yes l) = rw (ne_eqb s n (λ e. omega arith), ← ih l) (omega arith)
    go ih (no l) =
        let e : s ≡ n = omega arith in
        rw (eq-eqb s n e, e, word_cong n (λ x. eqb n x) (λ x. false) (λ x l'. ne_eqb n x (λ e'. omega arith)), word_none n) (omega arith)

-- one state more
pub step_word_lem : (n s : ℕ) (P : ℕ → Bool) → s < n → bit_or (word_of n P) (2 ^ s) ≡ word_of n (λ x. either (P x) (eqb s x))
step_word_lem n s P l = rw (pow_word n s l) (or_word n P (λ x. eqb s x))

-- a set and all others make up all n states
pub not_word : (n : ℕ) (P : ℕ → Bool) → word_of n P + word_of n (λ x. neg (P x)) + 1 ≡ 2 ^ n
unfolding word_of neg
not_word zero P = refl
not_word (suc n) P = rw (pow-suc 2 n) (go (P n) (word_of n P) (word_of n (λ x. neg (P x))) (2 ^ n) (not_word n P))
  where
    go : (b : Bool) (v w k : ℕ) → v + w + 1 ≡ k → bit b * k + v + (bit (neg b) * k + w) + 1 ≡ k * 2
    go true v w k e = omega arith
    go false v w k e = omega arith

pub all_word : (n : ℕ) → word_of n (λ x. true) ≡ 2 ^ n - 1
unfolding neg
all_word n = omega (arith, not_word n (λ x. true), word_none n)

-- ---- its members

-- a bit below the top one
below_top : (n s b r : ℕ) → s < n → r < 2 ^ n → (b * 2 ^ n + r) / 2 ^ s % 2 ≡ r / 2 ^ s % 2
below_top n s b r h l =
    let e : n - (1 + s) + (1 + s) ≡ n = omega arith in
    let m : (b * 2 ^ n + r) % 2 ^ (1 + s) ≡ r % 2 ^ (1 + s) =
    sym (mod-mod-pow (b * 2 ^ n + r) (n - (1 + s)) (1 + s)) ∙ rw (e, low b n l) in
    sym (field (b * 2 ^ n + r) 1 s) ∙ ap (λ (x : ℕ). x / 2 ^ s) m ∙ field r 1 s

word_bit : (n s : ℕ) (P : ℕ → Bool) → s < n → word_of n P / 2 ^ s % 2 ≡ bit (P s)
unfolding word_of
word_bit zero s P h = absurd (omega arith)
word_bit (suc n) s P h = go (word_bit n s P) (dec_lt s n)
  where
    top : (b : Bool) → bit b % 2 ≡ bit b
    top true = refl
    top false = refl

    go : (s < n → word_of n P / 2 ^ s % 2 ≡ bit (P s)) → Dec (s < n) → (bit (P n) * 2 ^ n + word_of n P) / 2 ^ s % 2 ≡ bit (P s)
    go ih (yes l) = below_top n s (bit (P n)) (word_of n P) l (word_lt n P) ∙ ih l
    go ih (no l) =
        let e : s ≡ n = omega arith in
        rw (e, high (bit (P n)) n (word_lt n P)) (top (P n))

-- the members of a test's word are those that pass
pub word_member : (n s : ℕ) (P : ℕ → Bool) → s < n → member (word_of n P) s ≡ P s
word_member n s P h = ap (λ (x : ℕ). eqb x 1) (word_bit n s P h) ∙ go (P s)
  where
    go : (b : Bool) → eqb (bit b) 1 ≡ b
    go true = refl
    go false = refl

-- a word below 2 ^ n has none from n on
pub no_member : (n w s : ℕ) → w < 2 ^ n → n ≤ s → member w s ≡ false
no_member n w s h l =
    let small : w < 2 ^ (0 + s) = omega (arith, pow_mono {i = n} {j = s} l, ap (λ (x : ℕ). 2 ^ x) (zero-add s)) in
    let z : w / 2 ^ s ≡ 0 = omega (arith, shr_lt {n = w} 0 s small) in
    rw z

-- no set has a state from 64 on
pub no_state_from_64 : (w s : ℕ) → w < 2 ^ 64 → 64 ≤ s → ltb s 64 ≡ member w s
no_state_from_64 w s h l = rw (no_member 64 w s h l) (le-ltb s 64 l)

-- the empty set has none
pub none_member : (s : ℕ) → member 0 s ≡ false
none_member s = no_member 0 0 s (omega arith) (omega arith)

-- a word is that of its members
pub word_ext : (n w : ℕ) → w < 2 ^ n → word_of n (member w) ≡ w
unfolding word_of
word_ext zero w h = omega arith
word_ext (suc n) w h =
    let l : w % 2 ^ n < 2 ^ n = mod-lt w (pow_pos n) in
    let q : w / 2 ^ n < 2 = shr_lt {n = w} 1 n (rw (add_comm 1 n, add-one n) h) in
    let e : w / 2 ^ n * 2 ^ n + w % 2 ^ n ≡ w = split w n in
    ap₂ (λ (x y : ℕ). x * 2 ^ n + y) (top (w / 2 ^ n) q)
    (word_cong n (member w) (member (w % 2 ^ n)) (λ x k. ap (λ (y : ℕ). eqb y 1) (ap (λ (y : ℕ). y / 2 ^ x % 2) (sym e) ∙ below_top n x (w / 2 ^ n) (w % 2 ^ n) k l))
    ∙ word_ext n (w % 2 ^ n) l)
    ∙ e
  where
    top : (x : ℕ) → x < 2 → bit (eqb (x % 2) 1) ≡ x
    top zero k = refl
    top (suc zero) k = refl
    top (suc (suc x)) k = absurd (omega arith)

-- two words below 2 ^ n with the same members below n are equal
pub same_members : (n v w : ℕ) → v < 2 ^ n → w < 2 ^ n → ((s : ℕ) → s < n → member v s ≡ member w s) → v ≡ w
same_members n v w h k e = sym (word_ext n v h) ∙ word_cong n _ _ e ∙ word_ext n w k

-- all n states but those of a word are the others
pub others_word : (n w : ℕ) → w < 2 ^ n → 2 ^ n - 1 - w ≡ word_of n (λ x. neg (member w x))
others_word n w h = omega (arith, not_word n (member w), word_ext n w h)

pub others_member : (n w s : ℕ) → w < 2 ^ n → s < n → member (2 ^ n - 1 - w) s ≡ neg (member w s)
others_member n w s h l = rw (others_word n w h) (word_member n s (λ x. neg (member w x)) l)

-- no test above n adds to its word
trimmed : (n k : ℕ) (P : ℕ → Bool) → n ≤ k → ((x : ℕ) → n ≤ x → P x ≡ false) → word_of k P ≡ word_of n P
unfolding word_of
trimmed n zero P h none = let e : n ≡ 0 = omega arith in rw e
trimmed n (suc k) P h none = go (trimmed n k P) (dec_lt k n)
  where
    go : (n ≤ k → ((x : ℕ) → n ≤ x → P x ≡ false) → word_of k P ≡ word_of n P) → Dec (k < n) → word_of (suc k) P ≡ word_of n P
    go ih (yes l) = let e : n ≡ suc k = omega arith in rw e
    go ih (no l) = let a : n ≤ k = omega arith in rw (none k a) (omega (arith, ih a none))

-- a word of 64 bits whose members are those that pass, none from n on, is the word of the test
pub word_of_lem : (n w : ℕ) (P : ℕ → Bool) → n ≤ 64 → w < 2 ^ 64 → ((x : ℕ) → member w x ≡ P x) → ((x : ℕ) → n ≤ x → P x ≡ false) → w ≡ word_of n P
word_of_lem n w P few h is none = sym (word_ext 64 w h) ∙ word_cong 64 _ _ (λ x l. is x) ∙ trimmed n 64 P few none

-- ---- a set without another that lies in it

without : (n : ℕ) (P Q : ℕ → Bool) → ((x : ℕ) → x < n → both (Q x) (P x) ≡ Q x) → word_of n Q + word_of n (λ x. both (P x) (neg (Q x))) ≡ word_of n P
unfolding word_of both neg
without zero P Q h = refl
without (suc n) P Q h = go (P n) (Q n) (h n (omega arith)) (without n P Q (λ x l. h x (omega arith)))
  where
    go : (p q : Bool) → both q p ≡ q → word_of n Q + word_of n (λ x. both (P x) (neg (Q x))) ≡ word_of n P
        → bit q * 2 ^ n + word_of n Q + (bit (both p (neg q)) * 2 ^ n + word_of n (λ x. both (P x) (neg (Q x)))) ≡ bit p * 2 ^ n + word_of n P
    go true true e ih = omega arith
    go true false e ih = omega arith
    go false true e ih = absurd (omega (arith, ap bit e))
    go false false e ih = omega arith

-- what the difference of two words has, where the meet of both is the less
pub minus_member : (n v w : ℕ) → v < 2 ^ n → w < 2 ^ n → bit_and v w ≡ v → (v ≤ w) × ((x : ℕ) → member w x ≡ either (member v x) (member (w - v) x))
unfolding both either neg
minus_member n v w h k e = (omega (arith, sum), is)
  where
    inside : (x : ℕ) → x < n → both (member v x) (member w x) ≡ member v x
    inside x l = sym (word_member n x (λ y. both (member v y) (member w y)) l) ∙ ap (λ (y : ℕ). member y x) (sym (and_word n (member v) (member w)) ∙ rw (word_ext n v h, word_ext n w k) e)

    sum : v + word_of n (λ x. both (member w x) (neg (member v x))) ≡ w
    sum = rw (word_ext n v h, word_ext n w k) at (without n (member w) (member v) inside)

    rest : w - v ≡ word_of n (λ x. both (member w x) (neg (member v x)))
    rest = omega (arith, sum)

    either_or : (p q : Bool) → both q p ≡ q → p ≡ either q (both p (neg q))
    either_or true true e = refl
    either_or true false e = refl
    either_or false true e = e
    either_or false false e = refl

    is : (x : ℕ) → member w x ≡ either (member v x) (member (w - v) x)
    is x = elim (dec_lt x n) [
      | yes l ↦ rw (rest, word_member n x (λ y. both (member w y) (neg (member v y))) l) (either_or (member w x) (member v x) (inside x l))
      | no f ↦ let a : n ≤ x = omega arith in rw (no_member n w x k a, no_member n v x h a, no_member n (w - v) x (omega arith) a)
    ]

-- ---- how many, and the code's shift

ones_bit : (b : Bool) (k : ℕ) → ones (bit b) + k ≡ tick b k
unfolding ones
ones_bit true k = omega arith
ones_bit false k = omega arith

-- the ones of a word are how many states pass
pub ones_word : (n : ℕ) (P : ℕ → Bool) → ones (word_of n P) ≡ count P (below n)
unfolding word_of ones count below
ones_word zero P = refl
ones_word (suc n) P = ones_cat n (bit (P n)) (word_of n P) (word_lt n P) ∙ ap (λ (x : ℕ). ones (bit (P n)) + x) (ones_word n P) ∙ ones_bit (P n) (count P (below n))

pub size_of_word : (w n : ℕ) (P : ℕ → Bool) → w ≡ word_of n P → ones w ≡ count P (below n)
size_of_word w n P e = ap ones e ∙ ones_word n P

-- the code's 1 << x
pub shl_one : (x : ℕ) → x < 64 → (1 * 2 ^ x) % 2 ^ 64 ≡ 2 ^ x
shl_one x h = shl_exact 1 x 64 (lit< tt) (omega arith) ∙ one-mul (2 ^ x)
